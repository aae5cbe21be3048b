-- Places in the order: of an id that stands, of one that doesn't, and the chain upward followed by places. Stands on Cases,
-- Row, Enclosure.
use Rattle.std.proofs.Common.{◌≡◌, refl, sym, ap, ◌∙◌, List, [], ◌∷◌, None, Some, ℕ, suc, ◌≤◌, ◌<◌, arith, eqb-true, eqb, length, get_or}
use Rattle.spaces.specs.Space.{empty_space, is_room}
use Rattle.spaces.specs.Row.{find, place_of}
use Rattle.spaces.specs.Enclosure.{enclosing}
use Rattle.spaces.specs.Around.{enclosing_place}
use Rattle.spaces.specs.declared.space.Space.{Space}
use Rattle.spaces.proofs.Laws.Cases.{by_test, none_not_some}

-- ---- the place of an id

-- one that stands has a place in the order, and there the space that it finds
pub record Placed (id : ℕ) (xs : List Space) (z : Space) : Type 0 where
  pub in_order : place_of id xs < length xs
  pub there : get_or xs (place_of id xs) empty_space ≡ z
  pub with_id : z.id ≡ id

pub placed : (id : ℕ) (xs : List Space) {z : Space} → find id xs ≡ Some z → Placed id xs z
placed id [] e = none_not_some refl e
placed id (x ∷ xs) {z} e =
    by_test (eqb x.id id)
    (λ t.
    let h : x ≡ z = cc in
    record { in_order = rw t (omega arith); there = rw t h; with_id = rw h at (eqb-true x.id id t) })
    (λ f.
    let p = placed id xs {z = z} (rw f at e) in
    record { in_order = rw f (omega (arith, p.in_order)); there = rw f p.there; with_id = p.with_id })

-- any other has the place after the last
unplaced : (id : ℕ) (xs : List Space) → find id xs ≡ None → place_of id xs ≡ length xs
unplaced id [] e = refl
unplaced id (x ∷ xs) e =
    by_test (eqb x.id id) (λ t. none_not_some (rw t at e) refl) (λ f. rw f (ap suc (unplaced id xs (rw f at e))))

-- so no place is past the end
pub place_bounded : (id : ℕ) (xs : List Space) → place_of id xs ≤ length xs
place_bounded id [] = omega arith
place_bounded id (x ∷ xs) = by_test (eqb x.id id) (λ t. rw t (omega arith)) (λ f. rw f (omega (arith, place_bounded id xs)))

-- no two ids have one place in the order
pub one_id_at : (w id : ℕ) (xs : List Space) → place_of w xs < length xs → place_of w xs ≡ place_of id xs → w ≡ id
one_id_at w id [] h e = absurd (omega arith)
one_id_at w id (x ∷ xs) h e =
    by_test (eqb x.id w)
    (λ t.
    by_test (eqb x.id id)
    (λ u. sym (eqb-true _ _ t) ∙ eqb-true _ _ u)
    (λ g. absurd (let z = rw (t, g) at e in omega arith)))
    (λ f.
    by_test (eqb x.id id)
    (λ u. absurd (let z = rw (f, u) at e in omega arith))
    (λ g.
    let k = rw f at h in
    let z = rw (f, g) at e in
    one_id_at w id xs (omega arith) (omega arith)))

-- ---- the place of the enclosing space

pub enclosed_nowhere : (xs : List Space) (x : Space) → enclosing xs x ≡ None → enclosing_place xs x ≡ length xs
enclosed_nowhere xs x e = by_test (is_room x) (λ r. rw r (unplaced x.within xs (rw r at e))) (λ r. rw r)

pub home_within : (xs : List Space) (x : Space) → enclosing_place xs x ≤ length xs
home_within xs x = by_test (is_room x) (λ r. rw r (place_bounded x.within xs)) (λ r. rw r (omega arith))
