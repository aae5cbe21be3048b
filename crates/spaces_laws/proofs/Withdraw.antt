-- A withdrawal is accepted exactly where the id stands and no room is directly inside, and then leaves a valid sheet. Stands on Entry.
use Rattle.std.proofs.Common.{ℕ, zero, suc, ◌≤◌, ◌≡◌, refl, sym, ap, ◌∙◌, true, false, not, List, [], ◌∷◌, ◌++◌, append-nil, le_of_eq, arith, ltb-false, le-ltb, eqb-true, eqb, length}
use mathlib.Core.List.Memᴰ
use borrow.Author.Tests.{eqb-false, not-false}
use Rattle.measure.specs.declared.units.Hundredths.{Hundredths}
use Rattle.measure.specs.Refusals.{none as no_more}
use Rattle.measure_laws.proofs.Refusals.{accepted}
use Rattle.spaces.specs.declared.space.Space.{Space}
use Rattle.spaces.specs.declared.sums.Amount.TheVariants.{Inside, Rooms, Lengths}
use Rattle.spaces.specs.Space.{is_room}
use Rattle.spaces.specs.Row.{find, stands, amount_of, sum_by, sum_of}
use Rattle.spaces.specs.Enclosure.{above, enclosing, upward}
use Rattle.standard.specs.Rules.{encloses_room, withdraw_tests, withdraw_number}
use Rattle.standard.specs.Valid.{ValidFrom, done, next, Valid}
use Rattle.spaces.proofs.Laws.Cases.{by_test, by_option}
use Rattle.spaces.proofs.Laws.Enclosure.{upward_next, upward_none}
use Rattle.spaces_laws.specs.Above.{◌∈◌}
use Rattle.spaces_laws.specs.Accepted.{Accepted, Outside, Withdrawable}
use Rattle.spaces_laws.proofs.Refusals.{none_applies, apart, together}
use Rattle.spaces_laws.proofs.Lists.{all_snoc, find_further, some_of, one_within_sum, sum_of_none, inside_adds, outside_adds_none}
use Rattle.spaces_laws.proofs.Walk.{enclosing_of_other, enclosing_of_room, enclosing_stands}
use Rattle.spaces_laws.proofs.Entry.{facts_of_entry, entry_of_facts}
use Rattle.spaces_laws.specs.Changes.{without}

pub facts_of_withdrawal : (xs : List Space) (id : ℕ) → withdraw_number xs id ≡ 0 → Withdrawable xs id
unfolding withdraw_number
facts_of_withdrawal xs id e =
    let (stood, rest) = apart (none_applies (withdraw_tests xs id) (omega arith) e) in
    let (empty, _) = apart rest in
    let s = some_of (find id xs) (not-false _ stood) in
    let no-rooms : sum_of (Rooms id) xs ≤ 0 = ltb-false _ _ empty in
    record {
      it = s.0;
      it_stands = s.1;
      no_room_inside = λ y m r q. omega (arith, inside_adds id 1 y r q, one_within_sum (amount_of (Rooms id)) m);
    }

pub withdrawal_of_facts : (xs : List Space) (id : ℕ) → Withdrawable xs id → withdraw_number xs id ≡ 0
unfolding withdraw_number
withdrawal_of_facts xs id w =
    let no-rooms : sum_of (Rooms id) xs ≡ 0 = sum_of_none (amount_of (Rooms id)) xs (λ y m. outside_adds_none id 1 y (w.no_room_inside y m)) in
    let stood : not (stands id xs) ≡ false = rw w.it_stands in
    let empty : encloses_room xs id ≡ false = le-ltb _ _ (le_of_eq no-rooms) in
    accepted (together stood (together empty no_more))

-- ---- the spaces without one

without_append : (id : ℕ) (xs ys : List Space) → without id (xs ++ ys) ≡ without id xs ++ without id ys
without_append id [] ys = refl
without_append id (x ∷ xs) ys =
    by_test (eqb x.id id)
    (λ t. rw t (without_append id xs ys))
    (λ f. rw f (ap (λ (l : List Space). x ∷ l) (without_append id xs ys)))

without_here : (id : ℕ) (x : Space) (xs : List Space) → eqb x.id id ≡ true → without id (x ∷ xs) ≡ without id xs
without_here id x xs e = rw e

without_further : (id : ℕ) (x : Space) (xs : List Space) → eqb x.id id ≡ false → without id (x ∷ xs) ≡ x ∷ without id xs
without_further id x xs e = rw e

find_without : (id other : ℕ) (xs : List Space) → (other ≡ id → ⊥) → find other (without id xs) ≡ find other xs
find_without id other [] n = refl
find_without id other (x ∷ xs) n =
    by_test (eqb x.id id)
    (λ t.
    rw (without_here id x xs t)
    (find_without id other xs n ∙ sym (find_further other x xs (λ q. n (sym q ∙ eqb-true _ _ t)))))
    (λ f.
    rw (without_further id x xs f) (by_test (eqb x.id other) (λ e. rw e) (λ e. rw e (find_without id other xs n))))

sum_without : (id : ℕ) (f : Space → ℕ) (xs : List Space) → sum_by f (without id xs) ≤ sum_by f xs
sum_without id f [] = omega arith
sum_without id f (x ∷ xs) =
    let h = sum_without id f xs in by_test (eqb x.id id) (λ t. rw t (omega arith)) (λ t. rw t (omega arith))

length_without : (id : ℕ) (xs : List Space) → length (without id xs) ≤ length xs
length_without id [] = omega arith
length_without id (x ∷ xs) =
    let h = length_without id xs in by_test (eqb x.id id) (λ t. rw t (omega arith)) (λ t. rw t (omega arith))

enclosing_without : (id : ℕ) (xs : List Space) (y : Space) → Outside id y → enclosing (without id xs) y ≡ enclosing xs y
enclosing_without id xs y out =
    by_test (is_room y)
    (λ r. enclosing_of_room (without id xs) y r ∙ find_without id y.within xs (out r) ∙ sym (enclosing_of_room xs y r))
    (λ r. enclosing_of_other (without id xs) y r ∙ sym (enclosing_of_other xs y r))

upward_without : (left id : ℕ) (xs : List Space) → ((y : Space) → y ∈ xs → Outside id y)
    → (y : Space) → Outside id y → upward left (without id xs) y ≡ upward left xs y
upward_without zero id xs empty y out = refl
upward_without (suc left) id xs empty y out =
    by_option (enclosing xs y)
    (λ e. upward_none (suc left) (without id xs) y (enclosing_without id xs y out ∙ e) ∙ sym (upward_none (suc left) xs y e))
    (λ z e.
    upward_next left (without id xs) y (enclosing_without id xs y out ∙ e)
    ∙ ap (λ (l : List Space). z ∷ l) (upward_without left id xs empty z (empty z (enclosing_stands xs y e)))
    ∙ sym (upward_next left xs y e))

-- ---- an entry after the spaces without one

accepted_without : (L : Hundredths) (id : ℕ) (xs : List Space) (y : Space) → ((z : Space) → z ∈ xs → Outside id z) → Outside id y
    → (y.id ≡ id → ⊥) → Accepted L xs y → Accepted L (without id xs) y
unfolding above
accepted_without L id xs y empty out other a =
    let same = upward_without 8 id xs empty y out in
    record {
      id_at_least = a.id_at_least;
      id_at_most = a.id_at_most;
      id_free = find_without id y.id xs other ∙ a.id_free;
      enclosed = λ r.
          let h = a.enclosed r in
          record { home = h.home; home_stands = find_without id y.within xs (out r) ∙ h.home_stands; no_hatchway = h.no_hatchway };
      may_take = a.may_take;
      level_at_most = rw same a.level_at_most;
      plain_above = λ p. rw same (a.plain_above p);
      rooms_fit = λ r. omega (arith, a.rooms_fit r, sum_without id (amount_of (Inside y.within)) xs);
      lengths_fit = λ u. omega (arith, a.lengths_fit u, sum_without id (amount_of Lengths) xs);
      place_left = omega (arith, a.place_left, length_without id xs);
    }

valid_without : (L : Hundredths) (id : ℕ) {pre xs : List Space} → ((y : Space) → y ∈ pre → Outside id y) → ((y : Space) → y ∈ xs → Outside id y)
    → ValidFrom L pre xs → ValidFrom L (without id pre) (without id xs)
valid_without L id before behind done = done
valid_without L id {pre} before behind (next {x = x} {xs = xs} e v) =
    let out = behind x (Memᴰ.head refl) in
    let rest = valid_without L id (all_snoc (Outside id) pre x before out) (λ y m. behind y (Memᴰ.tail m)) v in
    by_test (eqb x.id id)
    (λ t. rw (without_here id x xs t) (rw (without_append id pre (x ∷ []), without_here id x [] t, append-nil) at rest))
    (λ f.
    rw (without_further id x xs f)
    (next
    (entry_of_facts L _ x (accepted_without L id pre x before out (eqb-false _ _ f) (facts_of_entry L pre x e)))
    (rw (without_append id pre (x ∷ []), without_further id x [] f) at rest)))

pub withdrawal_by_id_keeps_valid : {L : Hundredths} {xs : List Space} (id : ℕ) → Valid L xs → withdraw_number xs id ≡ 0 → Valid L (without id xs)
withdrawal_by_id_keeps_valid {L} {xs} id v e =
    valid_without L id (λ y m. absurd (Memᴰ.not-nil m)) (facts_of_withdrawal xs id e).no_room_inside v
