-- Nothing is below a space with no room directly inside. Stands on Places.
use Rattle.std.proofs.Common.{ℕ, zero, suc, ◌+◌, ◌≡◌, refl, ap, ◌∙◌, subst, Bool, true, false, ◌&&◌, List, [], ◌∷◌, Some, arith, eqb}
use Rattle.spaces.specs.Space.{is_room}
use Rattle.spaces.specs.Row.{find, only, sum_of}
use Rattle.spaces.specs.Enclosure.{upward, above, among, below_of, below}
use Rattle.spaces.specs.declared.space.Space.{Space}
use Rattle.spaces.specs.declared.sums.Amount.TheVariants.{Rooms}
use Rattle.spaces.proofs.Laws.Cases.{by_test, by_option, not_both, none_not_some}
use Rattle.spaces.proofs.Laws.Places.{placed}

-- no room is directly inside an id
abbrev pub NoRoomIn : ℕ → Space → Type 0
NoRoomIn id y = is_room y ≡ true → eqb y.within id ≡ false

not_inside : (r i : Bool) (others : ℕ) → only (r && i) 1 + others ≡ 0 → r ≡ true → i ≡ false
not_inside true true others h r = absurd (omega arith)
not_inside true false others h r = refl
not_inside false i others h r = not_both r refl

no_room_in : (id : ℕ) (ys : List Space) → sum_of (Rooms id) ys ≡ 0 → (w : ℕ) {z : Space} → find w ys ≡ Some z → NoRoomIn id z
no_room_in id [] none w e = none_not_some refl e
no_room_in id (y ∷ ys) none w {z} e =
    by_test (eqb y.id w)
    (λ t. let h : y ≡ z = cc in subst (NoRoomIn id) h (not_inside (is_room y) (eqb y.within id) _ none))
    (λ f. no_room_in id ys (omega arith) w {z = z} (rw f at e))

-- the chain upward from a space meets an id only through a room directly inside it
nothing_met : (id left : ℕ) (xs : List Space) → sum_of (Rooms id) xs ≡ 0 → (y : Space) → NoRoomIn id y → among id (upward left xs y) ≡ false
nothing_met id zero xs none y own = refl
nothing_met id (suc left) xs none y own =
    by_test (is_room y)
    (λ r.
    by_option (find y.within xs)
    (λ e. rw (r, e))
    (λ z e.
    let other : eqb z.id id ≡ false = ap (λ (i : ℕ). eqb i id) (placed y.within xs e).with_id ∙ own r in
    rw (r, e, other) (nothing_met id left xs none z (no_room_in id xs none y.within e))))
    (λ r. rw r)

below_none : (id : ℕ) (xs ys : List Space) → sum_of (Rooms id) xs ≡ 0 → sum_of (Rooms id) ys ≡ 0 → below_of id xs ys ≡ []
unfolding above
below_none id xs [] none none_left = refl
below_none id xs (y ∷ ys) none none_left =
    rw (nothing_met id 8 xs none y (not_inside (is_room y) (eqb y.within id) _ none_left)) (below_none id xs ys none (omega arith))

pub nothing_below : (id : ℕ) (xs : List Space) → sum_of (Rooms id) xs ≡ 0 → below id xs ≡ []
nothing_below id xs none = below_none id xs xs none none
