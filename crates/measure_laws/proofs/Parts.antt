-- `nearest_parts` is the even number from 2 to 16 that `NearestEven` says, and no other is.
use Rattle.std.proofs.Common.{◌≡◌, refl, sym, ap, subst, ◌∙◌, Bool, true, false, cond, ◌⊎◌, inl, inr, ⊎_elim, ℕ, ◌+◌, ◌*◌, ◌≤◌, ◌<◌, le_refl, le_trans, le_antisymm, le_of_eq, le_of_lt, eq-or-lt_of_le, zero-mul, mul_right_comm, mul-le-mul_right, le_of_mul-le-mul_right, arith, leb-true, leb-false, leb}
use native.Mathlib.Nat.{eq_of_mul-eq-mul_left, eq_of_mul-eq-mul_right}
use Rattle.measure.specs.Parts.{EvenParts, p2, p4, p6, p8, p10, p12, p14, p16, distance, nearer, nearest_parts, NearestEven}
use Rattle.measure.specs.declared.units.Hundredths.{Hundredths}
use Rattle.measure.proofs.Laws.Parts.{most, least}

-- fractions compared by products: x / c ≤ y / b and y / b ≤ z / k give x / c ≤ z / k
through : (x y z b c k : ℕ) → 0 < b → x * b ≤ y * c → y * k ≤ z * b → x * k ≤ z * c
through x y z b c k hb p q =
    le_of_mul-le-mul_right {k = b}
    (le_trans (le_of_eq (mul_right_comm x k b))
    (le_trans (mul-le-mul_right k p)
    (le_trans (le_of_eq (mul_right_comm y c k))
    (le_trans (mul-le-mul_right c q) (le_of_eq (mul_right_comm z b c))))))
    hb

-- b is the nearest of the even numbers from j to 16, the greatest on a tie, where f k / k is how far k is
record Best (f : ℕ → ℕ) (j b : ℕ) : Type 0 where
  from : j ≤ b
  even : EvenParts b
  near : (k : ℕ) → EvenParts k → j ≤ k → f b * k ≤ f k * b
  high : (k : ℕ) → EvenParts k → j ≤ k → f b * k ≡ f k * b → k ≤ b

half_of : {k : ℕ} → EvenParts k → (h : ℕ) × (k ≡ 2 * h)
half_of p2 = (1, refl)
half_of p4 = (2, refl)
half_of p6 = (3, refl)
half_of p8 = (4, refl)
half_of p10 = (5, refl)
half_of p12 = (6, refl)
half_of p14 = (7, refl)
half_of p16 = (8, refl)

-- an even number from j on is j itself or one from j + 2 on
on_from : (j k : ℕ) → EvenParts j → EvenParts k → j ≤ k → (k ≡ j) ⊎ (j + 2 ≤ k)
on_from j k p q h =
    let (i, e) = half_of p in
    let (i', e') = half_of q in
    ⊎_elim (λ (s : j ≡ k). inl (sym s)) (λ (g : j < k). inr (omega arith)) (eq-or-lt_of_le h)

last : (f : ℕ → ℕ) → Best f 16 16
last f =
    record {
      from = le_refl 16;
      even = p16;
      near = λ k p h. let e : k ≡ 16 = le_antisymm (most p) h in subst (λ (x : ℕ). f 16 * x ≤ f x * 16) (sym e) (le_refl (f 16 * 16));
      high = λ k p h e. most p;
    }

-- b kept, where it is as near as j or nearer
kept : (f : ℕ → ℕ) (j b : ℕ) → EvenParts j → Best f (j + 2) b → f b * j ≤ f j * b → Best f j b
kept f j b p r h =
    record {
      from = omega (arith, r.from);
      even = r.even;
      near = λ k q g. ⊎_elim (λ (e : k ≡ j). subst (λ (x : ℕ). f b * x ≤ f x * b) (sym e) h) (λ g'. r.near k q g') (on_from j k p q g);
      high = λ k q g t. ⊎_elim (λ (e : k ≡ j). omega (arith, r.from)) (λ g'. r.high k q g' t) (on_from j k p q g);
    }

-- j in the place of b, where it is nearer
taken : (f : ℕ → ℕ) (j b : ℕ) → EvenParts j → Best f (j + 2) b → f j * b < f b * j → Best f j j
taken f j b p r h =
    record {
      from = le_refl j;
      even = p;
      near = λ k q g.
          ⊎_elim
          (λ (e : k ≡ j). subst (λ (x : ℕ). f j * x ≤ f x * j) (sym e) (le_refl (f j * j)))
          (λ g'. through (f j) (f b) (f k) b j k (omega (arith, least r.even)) (le_of_lt h) (r.near k q g'))
          (on_from j k p q g);
      high = λ k q g t.
          ⊎_elim
          (λ (e : k ≡ j). le_of_eq e)
          (λ g'. let back = through (f b) (f k) (f j) k b j (omega (arith, least q)) (r.near k q g') (le_of_eq (sym t)) in omega arith)
          (on_from j k p q g);
    }

step : (f : ℕ → ℕ) (j b : ℕ) (t : Bool) → leb (f b * j) (f j * b) ≡ t → EvenParts j → Best f (j + 2) b → Best f j (cond t b j)
step f j b true e p r = kept f j b p r (leb-true _ _ e)
step f j b false e p r = taken f j b p r (leb-false _ _ e)

pub nearest_parts_is : (t : Hundredths) (n : ℕ) (l : Hundredths) → NearestEven t n l (nearest_parts t n l)
unfolding nearest_parts nearer
nearest_parts_is t n l =
    let r = next p2 (next p4 (next p6 (next p8 (next p10 (next p12 (next p14 (last f))))))) in
    record {
      even = r.even;
      nearest_of = λ k p. r.near k p (least p);
      greater_of = λ k p. r.high k p (least p);
    }
  where
    f : ℕ → ℕ
    f = distance t n l

    next : {j b : ℕ} → EvenParts j → Best f (j + 2) b → Best f j (cond (leb (f b * j) (f j * b)) b j)
    next {j} {b} p r = step f j b _ refl p r

pub nearest_parts_only : (t : Hundredths) (n : ℕ) (l : Hundredths) (p q : ℕ) → NearestEven t n l p → NearestEven t n l q → p ≡ q
nearest_parts_only t n l p q r s =
    let a = r.nearest_of q s.even in
    let b = s.nearest_of p r.even in
    le_antisymm (s.greater_of p r.even (le_antisymm b a)) (r.greater_of q s.even (le_antisymm a b))

-- where the interval of a length is the reference for that length, its own number of parts is the nearest
pub nearest_to_itself : {n : ℕ} (u : Hundredths) → EvenParts n → 0 < u.0 → nearest_parts u n u ≡ n
unfolding distance
nearest_to_itself {n} u even some =
    nearest_parts_only u n u (nearest_parts u n u) n (nearest_parts_is u n u)
    (record {
      even = even;
      nearest_of = λ k q. omega (arith, at_itself k);
      greater_of = λ k q e.
          let z : distance u n u k * n ≡ 0 * n = sym e ∙ at_itself k ∙ sym (zero-mul n) in
          let none : distance u n u k ≡ 0 = eq_of_mul-eq-mul_right n (omega (arith, least even)) (distance u n u k) 0 z in
          let same : u.0 * n ≡ u.0 * k = omega arith in
          le_of_eq (sym (eq_of_mul-eq-mul_left u.0 some n k same));
    })
  where
    at_itself : (k : ℕ) → distance u n u n * k ≡ 0
    at_itself k =
        let none : distance u n u n ≡ 0 = omega arith in
        ap (λ (d : ℕ). d * k) none ∙ zero-mul k
