-- What stands among the first i of some spaces. Stands on Cases.
use Rattle.std.proofs.Common.{ℕ, zero, suc, ◌≤◌, ◌<◌, min, ◌≡◌, refl, sym, ap, ◌∙◌, Bool, true, false, cond, List, [], ◌∷◌, None, Some, is_some, arith, ltb-true, ltb-false, lt-ltb, le-ltb, eqb, ltb, length, take, get_or, length-take}
use native.Mathlib.Nat.{min-eq_left, min-eq_right, min_comm, suc-min-suc}
use Rattle.spaces.specs.Space.{empty_space, is_room}
use Rattle.spaces.specs.Row.{find, place_of, stands}
use Rattle.spaces.specs.Enclosure.{enclosing}
use Rattle.spaces.specs.Around.{enclosing_place}
use Rattle.spaces.specs.declared.space.Space.{Space}
use Rattle.spaces.proofs.Laws.Cases.{by_test}

-- an id stands there where its place is before i
pub found_before : (id : ℕ) (xs : List Space) (i : ℕ) → i ≤ length xs
    → find id (take i xs) ≡ cond (ltb (place_of id xs) i) (Some (get_or xs (place_of id xs) empty_space)) None
found_before id xs zero h = sym (ap (λ (b : Bool). cond b (Some (get_or xs (place_of id xs) empty_space)) None) (le-ltb (place_of id xs) 0 (omega arith)))
found_before id [] (suc i) h = absurd (omega arith)
found_before id (x ∷ xs) (suc i) h =
    by_test (eqb x.id id)
    (λ t. rw (t, lt-ltb 0 (suc i) (omega arith)))
    (λ f. rw f (found_before id xs i (omega arith) ∙ ap (λ (b : Bool). cond b (Some (get_or xs (place_of id xs) empty_space)) None) (shifted (place_of id xs) i)))
  where
    shifted : (p i : ℕ) → ltb p i ≡ ltb (suc p) (suc i)
    shifted p i =
        by_test (ltb p i)
        (λ t. t ∙ sym (lt-ltb (suc p) (suc i) (omega (arith, ltb-true p i t))))
        (λ f. f ∙ sym (le-ltb (suc p) (suc i) (omega (arith, ltb-false p i f))))

pub stands_before : (id : ℕ) (xs : List Space) (i : ℕ) → i ≤ length xs → stands id (take i xs) ≡ ltb (place_of id xs) i
stands_before id xs i h = ap is_some (found_before id xs i h) ∙ some_where (ltb (place_of id xs) i)
  where
    some_where : (b : Bool) → is_some (cond b (Some (get_or xs (place_of id xs) empty_space)) None) ≡ b
    some_where true = refl
    some_where false = refl

-- its place there is its place, or the one after the last
place_in_first : (id : ℕ) (xs : List Space) (i : ℕ) → i ≤ length xs → place_of id (take i xs) ≡ min (place_of id xs) i
place_in_first id xs zero h = sym (min-eq_right (omega arith))
place_in_first id [] (suc i) h = absurd (omega arith)
place_in_first id (x ∷ xs) (suc i) h =
    by_test (eqb x.id id)
    (λ t. rw t (sym (min-eq_left (omega arith))))
    (λ f. rw f (ap suc (place_in_first id xs i (omega arith)) ∙ sym (suc-min-suc (place_of id xs) i)))

-- and so of the enclosing space of any
pub place_before : (x : Space) (xs : List Space) (i : ℕ) → i ≤ length xs → enclosing_place (take i xs) x ≡ min (enclosing_place xs x) i
place_before x xs i h =
    by_test (is_room x)
    (λ r. rw r (place_in_first x.within xs i h))
    (λ r. rw r (length-take i xs ∙ min_comm i (length xs)))

-- the enclosing space of any stands there where its place does
pub enclosing_before : (x : Space) (xs : List Space) (i : ℕ) → i ≤ length xs
    → enclosing (take i xs) x ≡ cond (ltb (enclosing_place xs x) i) (Some (get_or xs (enclosing_place xs x) empty_space)) None
enclosing_before x xs i h =
    by_test (is_room x)
    (λ r. rw r (found_before x.within xs i h))
    (λ r. rw (r, le-ltb (length xs) i h))

module _ (x : Space) (xs : List Space) (i : ℕ) (h : i ≤ length xs) where
  pub enclosed_before : enclosing_place xs x < i → enclosing (take i xs) x ≡ Some (get_or xs (enclosing_place xs x) empty_space)
  enclosed_before l = enclosing_before x xs i h ∙ simp (lt-ltb (enclosing_place xs x) i l)

  pub not_before : i ≤ enclosing_place xs x → enclosing (take i xs) x ≡ None
  not_before l = enclosing_before x xs i h ∙ simp (le-ltb (enclosing_place xs x) i l)
