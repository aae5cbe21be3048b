-- Records judged one after another: one passed, one refused, and the end; and the number of one, by what is around it.
use Rattle.std.proofs.Common.{ℕ, ◌+◌, ◌≤◌, ◌<◌, ◌≡◌, sym, ap, ◌∙◌, false, cond, List, Option, slice_get, arith, eq-eqb, ne_eqb, length, take, drop, get_or, drop_of_length-le, length-take-le}
use borrow.Author.Tests.{lt-leb}
use Rattle.measure.specs.declared.units.Hundredths.{Hundredths}
use Rattle.spaces.specs.Space.{empty_space}
use Rattle.spaces.specs.Around.{around_of}
use Rattle.spaces.specs.declared.space.Space.{Space}
use Rattle.spaces.specs.declared.around.Around.{Around}
use Rattle.spaces.proofs.Laws.Cases.{by_test}
use Rattle.spaces.proofs.Laws.Row.{one_ahead, one_passed}
use Rattle.standard.specs.Rules.{entry_number}
use Rattle.standard.specs.Records.{misrecorded, record_number, first_refused}
use Rattle.standard.specs.Handed.{entry_number_by}
use Rattle.standard.proofs.Laws.Judged.{home_encloses, entry_is}

module _ (L : Hundredths) (xs : List Space) (i : ℕ) where
  pub record_passed : i < length xs → record_number L (take i xs) (get_or xs i empty_space) ≡ 0
      → first_refused L (take i xs) (drop i xs) ≡ first_refused L (take (i + 1) xs) (drop (i + 1) xs)
  record_passed h e =
      ap (first_refused L (take i xs)) (one_ahead xs i h) ∙ rw (eq-eqb _ 0 e) (ap (λ (l : List Space). first_refused L l (drop (i + 1) xs)) (one_passed xs i h))

  pub record_refused : i < length xs → (record_number L (take i xs) (get_or xs i empty_space) ≡ 0 → ⊥)
      → first_refused L (take i xs) (drop i xs) ≡ record { number = record_number L (take i xs) (get_or xs i empty_space); position = i + 1 }
  record_refused h e =
      ap (first_refused L (take i xs)) (one_ahead xs i h)
      ∙ rw (ne_eqb _ 0 e)
      (ap (λ (k : ℕ). record { number = record_number L (take i xs) (get_or xs i empty_space); position = k + 1 }) (length-take-le i xs (omega arith)))

  pub none_refused : length xs ≤ i → first_refused L (take i xs) (drop i xs) ≡ record { number = 0; position = 0 }
  none_refused h = ap (first_refused L (take i xs)) (drop_of_length-le xs {i = i} h)

-- ---- the number of a record after fewer than 200

pub record_number_is : (L : Hundredths) (xs : List Space) (x : Space) (o : Option Space) (a : Around) → a ≡ around_of xs x → o ≡ slice_get xs a.home
    → length xs < 200
    → (r : ℕ) → r ≡ cond (misrecorded x) 2 (entry_number_by L x o a false) → r ≡ record_number L xs x
unfolding record_number entry_number
record_number_is L xs x o a around found few r e =
    let number : entry_number_by L x o a false ≡ entry_number L xs x =
    entry_is L xs x o a false (found ∙ home_encloses xs x a around) around (sym (lt-leb 200 (length xs) few)) in
    e ∙ ap (λ (n : ℕ). cond (misrecorded x) 2 n) number ∙ by_test (misrecorded x) (λ t. rw t) (λ f. rw f)
