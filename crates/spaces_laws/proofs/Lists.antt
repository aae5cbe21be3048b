-- Membership in a list of spaces, finding a space by its id, and sums over the spaces. Stands on Tests.
use Rattle.std.proofs.Common.{ℕ, zero, suc, ◌+◌, ◌*◌, ◌≤◌, ◌<◌, ◌≡◌, refl, sym, ap, ◌∙◌, subst, Bool, true, false, ◌&&◌, List, [], ◌∷◌, ◌++◌, Option, None, Some, is_some, ◌⊎◌, inl, inr, ⊎_elim, arith, eqb-true, eq-eqb, ne_eqb, eqb, length, get_or}
use mathlib.Core.List.Memᴰ
use borrow.Author.Tests.{eqb-false}
use Rattle.spaces.specs.declared.space.Space.{Space}
use Rattle.spaces.specs.Space.{empty_space, is_room}
use Rattle.spaces.specs.Row.{find, place_of, only, sum_by}
use Rattle.spaces.proofs.Laws.Cases.{by_test, not_both, none_not_some}
use Rattle.spaces.proofs.Laws.Places.{placed}
pub use Rattle.spaces_laws.specs.Above.{◌∈◌}
use Rattle.spaces_laws.proofs.Tests.{and_fails_of}

-- what holds of each, and of one more at the end
pub all_snoc : (P : Space → Type 0) (xs : List Space) (x : Space) → ((y : Space) → y ∈ xs → P y) → P x → (y : Space) → y ∈ (xs ++ (x ∷ [])) → P y
all_snoc P xs x h p y m = go (Memᴰ.append_cases xs m)
  where
    go : (y ∈ xs) ⊎ (y ∈ (x ∷ [])) → P y
    go (inl a) = h y a
    go (inr a) = subst P (sym (Memᴰ.eq_of_singleton a)) p

-- what stands at a place in the order is one of the spaces
pub member_at : (xs : List Space) (i : ℕ) (d : Space) → i < length xs → get_or xs i d ∈ xs
member_at [] i d h = absurd (omega arith)
member_at (x ∷ xs) zero d h = Memᴰ.head refl
member_at (x ∷ xs) (suc i) d h = Memᴰ.tail (member_at xs i d (omega arith))

-- ---- finding

pub find_here : (id : ℕ) (x : Space) (xs : List Space) → x.id ≡ id → find id (x ∷ xs) ≡ Some x
find_here id x xs e = rw (eq-eqb x.id id e)

pub find_further : (id : ℕ) (x : Space) (xs : List Space) → (x.id ≡ id → ⊥) → find id (x ∷ xs) ≡ find id xs
find_further id x xs n = rw (ne_eqb x.id id n)

pub find_before : (id : ℕ) (xs ys : List Space) {z : Space} → find id xs ≡ Some z → find id (xs ++ ys) ≡ Some z
find_before id [] ys {z} e = none_not_some refl e
find_before id (x ∷ xs) ys {z} e =
    by_test (eqb x.id id) (λ t. rw t (rw t at e)) (λ f. rw f (find_before id xs ys {z = z} (rw f at e)))

pub find_behind : (id : ℕ) (xs ys : List Space) → find id xs ≡ None → find id (xs ++ ys) ≡ find id ys
find_behind id [] ys e = refl
find_behind id (x ∷ xs) ys e =
    by_test (eqb x.id id) (λ t. none_not_some e (find_here id x xs (eqb-true _ _ t))) (λ f. rw f (find_behind id xs ys (rw f at e)))

-- what is found is one of the spaces, and has the id
pub found_stands : (id : ℕ) (xs : List Space) {z : Space} → find id xs ≡ Some z → (z ∈ xs) × (z.id ≡ id)
found_stands id xs {z} e =
    let p = placed id xs {z = z} e in
    (subst (λ (y : Space). y ∈ xs) p.there (member_at xs (place_of id xs) empty_space p.in_order), p.with_id)

-- where an id isn't found, no space has it
pub unfound_absent : (id : ℕ) {xs : List Space} {z : Space} → find id xs ≡ None → z ∈ xs → z.id ≡ id → ⊥
unfound_absent id {xs = []} {z} e m h = Memᴰ.not-nil m
unfound_absent id {xs = x ∷ xs} {z} e m h =
    by_test (eqb x.id id)
    (λ t. none_not_some e (find_here id x xs (eqb-true _ _ t)))
    (λ f.
    ⊎_elim
    (λ (q : z ≡ x). eqb-false _ _ f (sym (ap (λ (s : Space). s.id) q) ∙ h))
    (λ (k : z ∈ xs). unfound_absent id {xs = xs} {z = z} (rw f at e) k h)
    (Memᴰ.cases_cons m))

pub some_of : (o : Option Space) → is_some o ≡ true → (z : Space) × (o ≡ Some z)
some_of None e = not_both e refl
some_of (Some z) e = (z, refl)

pub none_of : (o : Option Space) → is_some o ≡ false → o ≡ None
none_of None e = refl
none_of (Some z) e = not_both refl e

-- ---- sums

pub only_at_most : (test : Bool) (n : ℕ) → only test n ≤ n
only_at_most true n = omega arith
only_at_most false n = omega arith

pub sum_at_most : (f g : Space → ℕ) (xs : List Space) → ((y : Space) → y ∈ xs → f y ≤ g y) → sum_by f xs ≤ sum_by g xs
sum_at_most f g [] h = omega arith
sum_at_most f g (x ∷ xs) h =
    omega (arith, h x (Memᴰ.head refl), sum_at_most f g xs (λ y m. h y (Memᴰ.tail m)))

pub sum_same : (f g : Space → ℕ) (xs : List Space) → ((y : Space) → y ∈ xs → f y ≡ g y) → sum_by f xs ≡ sum_by g xs
sum_same f g [] h = refl
sum_same f g (x ∷ xs) h = omega (arith, h x (Memᴰ.head refl), sum_same f g xs (λ y m. h y (Memᴰ.tail m)))

pub sum_of_each_at_most : (f : Space → ℕ) (most : ℕ) (xs : List Space) → ((y : Space) → y ∈ xs → f y ≤ most) → sum_by f xs ≤ length xs * most
sum_of_each_at_most f most [] h = omega arith
sum_of_each_at_most f most (x ∷ xs) h =
    omega (arith, h x (Memᴰ.head refl), sum_of_each_at_most f most xs (λ y m. h y (Memᴰ.tail m)))

pub sum_of_sums : (f g : Space → ℕ) (xs : List Space) → sum_by (λ y. f y + g y) xs ≡ sum_by f xs + sum_by g xs
sum_of_sums f g [] = refl
sum_of_sums f g (x ∷ xs) = omega (arith, sum_of_sums f g xs)

pub one_within_sum : (f : Space → ℕ) {xs : List Space} {z : Space} → z ∈ xs → f z ≤ sum_by f xs
one_within_sum f {xs = []} {z} m = absurd (Memᴰ.not-nil m)
one_within_sum f {xs = x ∷ xs} {z} m =
    ⊎_elim
    (λ (q : z ≡ x). let e : f z ≡ f x = ap f q in omega arith)
    (λ (k : z ∈ xs). omega (arith, one_within_sum f {xs = xs} {z = z} k))
    (Memᴰ.cases_cons m)

pub sum_of_none : (f : Space → ℕ) (xs : List Space) → ((y : Space) → y ∈ xs → f y ≡ 0) → sum_by f xs ≡ 0
sum_of_none f [] h = refl
sum_of_none f (x ∷ xs) h = omega (arith, h x (Memᴰ.head refl), sum_of_none f xs (λ y m. h y (Memᴰ.tail m)))

-- the order of two sums may be changed
pub sums_exchange : (f : Space → Space → ℕ) (xs ys : List Space)
    → sum_by (λ y. sum_by (λ z. f z y) xs) ys ≡ sum_by (λ z. sum_by (λ y. f z y) ys) xs
sums_exchange f [] ys = sum_of_none (λ y. 0) ys (λ y m. refl)
sums_exchange f (x ∷ xs) ys =
    sum_of_sums (λ y. f x y) (λ y. sum_by (λ z. f z y) xs) ys ∙ ap (λ (n : ℕ). sum_by (λ y. f x y) ys + n) (sums_exchange f xs ys)

-- ---- rooms directly inside the space with an id, and what each adds to a sum over them

pub inside_adds : (id n : ℕ) (y : Space) → is_room y ≡ true → y.within ≡ id → only (is_room y && eqb y.within id) n ≡ n
inside_adds id n y r e = rw (r, eq-eqb y.within id e)

pub outside_adds_none : (id n : ℕ) (y : Space) → (is_room y ≡ true → y.within ≡ id → ⊥) → only (is_room y && eqb y.within id) n ≡ 0
outside_adds_none id n y h = let e = and_fails_of (is_room y) (eqb y.within id) (λ r. ne_eqb _ _ (h r)) in rw e
