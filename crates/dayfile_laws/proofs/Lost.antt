-- 20, both ways: exactly where form 1 is named and a deck or the vessel number isn't 0. Stands on Forms, Fitting.
use Rattle.std.proofs.Common.{ℕ, ◌≡◌, refl, true, false, List, [], ◌∷◌, ◌↔◌, arith, eqb}
use mathlib.Core.List.Memᴰ
use borrow.Author.Tests.{eqb-false}
use Rattle.spaces.specs.declared.space.Space.{Space}
use Rattle.spaces.proofs.Laws.Cases.{by_test, not_both, or_fails}
use Rattle.spaces_laws.specs.Above.{◌∈◌}
use Rattle.sheet.specs.Sheet.{standing}
use Rattle.sheet.specs.declared.sheet.Sheet.{Sheet}
use Rattle.dayfile.specs.Forms.{is_form, form_of, lost}
use Rattle.dayfile.specs.Writing.{loses_deck, loses_number}
use Rattle.dayfile_laws.specs.Writing.{LosesNumber, the_vessel_number, a_deck, Zeros}
use Rattle.dayfile_laws.proofs.Forms.{known_form, lacking_0}
use Rattle.dayfile_laws.proofs.Fitting.{deck_kept}

-- ---- form 1

-- a deck that it loses is one that isn't 0
deck_lost : {P : Type 0} (xs : List Space) → loses_deck (form_of 1) xs ≡ true → ((x : Space) → x ∈ xs → (x.deck ≡ 0 → ⊥) → P) → P
unfolding form_of
deck_lost [] t found = not_both t refl
deck_lost (x ∷ xs) t found =
    by_test (eqb x.deck 0)
    (λ z. deck_lost xs (rw z at t) (λ y m. found y (Memᴰ.tail m)))
    (λ f. found x (Memᴰ.head refl) (eqb-false x.deck 0 f))

number_lost : (s : Sheet) → loses_number (form_of 1) s ≡ true → LosesNumber 1 s
unfolding form_of loses_number
number_lost s t =
    by_test (eqb s.vessel 0) (λ z. deck_lost (standing s) (rw z at t) a_deck) (λ f. the_vessel_number (eqb-false s.vessel 0 f))

-- where it loses none, all are 0
none_lost : (s : Sheet) → loses_number (form_of 1) s ≡ false → Zeros s
unfolding form_of loses_number
none_lost s kept =
    let (no-vessel, no-deck) = or_fails (lost (form_of 1).vessel s.vessel) (loses_deck (form_of 1) (standing s)) kept in
    record {
      vessel_0 = lacking_0 0 s.vessel no-vessel refl;
      decks_0 = λ x m. lacking_0 0 x.deck (deck_kept (form_of 1) no-deck m) refl;
    }

-- where it loses one, not all are
not_zeros : {form : ℕ} {s : Sheet} → LosesNumber form s → Zeros s → ⊥
not_zeros (the_vessel_number some) zeros = some zeros.vessel_0
not_zeros (a_deck x m some) zeros = some (zeros.decks_0 x m)

-- so it loses none exactly where there is no deck and no vessel number
pub kept_in_form_1 : (s : Sheet) → (loses_number (form_of 1) s ≡ false) ↔ Zeros s
kept_in_form_1 s = (none_lost s, λ zeros. by_test (loses_number (form_of 1) s) (λ t. absurd (not_zeros (number_lost s t) zeros)) (λ f. f))

-- ---- form 2

-- it has a field for each
none_in_form_2 : (xs : List Space) → loses_deck (form_of 2) xs ≡ false
unfolding form_of
none_in_form_2 [] = refl
none_in_form_2 (x ∷ xs) = none_in_form_2 xs

pub kept_in_form_2 : (s : Sheet) → loses_number (form_of 2) s ≡ false
unfolding form_of loses_number
kept_in_form_2 s = none_in_form_2 (standing s)

-- ---- either form

-- none but form 1 loses one
only_form_1 : {form : ℕ} {s : Sheet} → LosesNumber form s → form ≡ 1
only_form_1 (the_vessel_number some) = refl
only_form_1 (a_deck x m some) = refl

-- "20 where a move or write in form 1 would lose a number"
pub loses_exactly : (form : ℕ) (s : Sheet) → is_form form ≡ true → (loses_number (form_of form) s ≡ true) ↔ LosesNumber form s
loses_exactly form s =
    known_form (λ (n : ℕ). (loses_number (form_of n) s ≡ true) ↔ LosesNumber n s)
    (number_lost s, λ l. by_test (loses_number (form_of 1) s) (λ t. t) (λ f. absurd (not_zeros l (none_lost s f))))
    (λ t. not_both t (kept_in_form_2 s), λ l. absurd (omega (arith, only_form_1 l)))
    form
