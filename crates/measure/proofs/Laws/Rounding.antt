-- Laws of `nearest`: the remainder decides it, and bounds.
use Rattle.std.proofs.Common.{◌≡◌, sym, ap, ◌∙◌, ℕ, ◌+◌, ◌-◌, ◌*◌, ◌/◌, ◌%◌, ◌≤◌, ◌<◌, mul-le-mul_left, mul-le-mul_right, div-mul-le_self, div-lt_iff_lt-mul, div-add-mod', mul-one, mul_comm, mul_assoc, mul_left_comm, add-mul, le_trans, le_of_eq, arith}
use native.Mathlib.Nat.{div-zero, lt-div-mul-add, div-eq_of_lt-le}
use Rattle.measure.specs.Rounding.{nearest}

-- q (2 b) and (q + 1) (2 b) in terms of the product q b
doubled : (q b : ℕ) → (q * (2 * b) ≡ 2 * (q * b)) × ((q + 1) * (2 * b) ≡ 2 * (q * b) + 2 * b)
doubled q b =
    let e : q * (2 * b) ≡ 2 * (q * b) = mul_left_comm q 2 b in
    (e, omega (arith, add-mul q 1 (2 * b)))

-- nothing is divided by 0: a quotient by it is 0
pub nearest_by_zero : (a : ℕ) → nearest a 0 ≡ 0
unfolding nearest
nearest_by_zero a = div-zero (2 * a + 0)

-- a remainder below a half is dropped, and one of a half or more counts as one
pub nearest_down : (a b : ℕ) → a % b < b - a % b → a / b ≡ nearest a b
unfolding nearest
nearest_down a b h =
    let e = div-add-mod' a b in
    let d = doubled (a / b) b in
    sym (div-eq_of_lt-le (2 * b) (omega arith) (omega arith))

pub nearest_up : (a b : ℕ) → a % b < b → b - a % b ≤ a % b → a / b + 1 ≡ nearest a b
unfolding nearest
nearest_up a b l h =
    let e = div-add-mod' a b in
    let d = doubled (a / b) b in
    let d' = doubled (a / b + 1) b in
    let s : (a / b + 1) * b ≡ a / b * b + b = omega (arith, add-mul (a / b) 1 b) in
    sym (div-eq_of_lt-le (2 * b) (omega arith) (omega arith))

-- a rounded fraction is no more than the fraction and a half
pub nearest_mul : (a b : ℕ) → nearest a b * (2 * b) ≤ 2 * a + b
unfolding nearest
nearest_mul a b = div-mul-le_self (2 * a + b) (2 * b)

-- and a rounded fraction is within a half of the fraction, on a half above it
pub nearest_within : (a b : ℕ) → 0 < b → (2 * (b * nearest a b) ≤ 2 * a + b) × (2 * a < 2 * (b * nearest a b) + b)
unfolding nearest
nearest_within a b h =
    let p : 0 < 2 * b = omega arith in
    let lo = div-mul-le_self (2 * a + b) (2 * b) in
    let hi = lt-div-mul-add {a = 2 * a + b} p in
    let d = doubled ((2 * a + b) / (2 * b)) b in
    let e = mul_comm b ((2 * a + b) / (2 * b)) in
    (omega arith, omega arith)

-- a fraction that is at most a whole number is so when rounded
pub nearest_cap : (k a b : ℕ) → 0 < b → a ≤ k * b → nearest a b ≤ k
unfolding nearest
nearest_cap k a b hb h =
    let d = doubled k b in
    let hb' : 0 < 2 * b = omega arith in
    let p : (2 * a + b) / (2 * b) < k + 1 = (div-lt_iff_lt-mul hb').1 (omega arith) in
    omega arith

-- and no rounded fraction is more than what was divided
pub nearest_le : (a b : ℕ) → 0 < b → nearest a b ≤ a
nearest_le a b h = nearest_cap a a b h (omega (arith, mul-le-mul_left a h, mul-one a))

regroup : (A b t : ℕ) → b * A * t * 2 ≡ A * (t * (2 * b))
regroup A b t =
    ap (λ (x : ℕ). x * t * 2) (mul_comm b A)
    ∙ ap (λ (x : ℕ). x * 2) (mul_assoc A b t)
    ∙ mul_assoc A (b * t) 2
    ∙ ap (λ (x : ℕ). A * (x * 2)) (mul_comm b t)
    ∙ ap (λ (x : ℕ). A * x) (mul_assoc t b 2)
    ∙ ap (λ (x : ℕ). A * (t * x)) (mul_comm b 2)

-- a sum over b intervals of values of at most A, times the rounded interval a / b, is at most A (a + b / 2)
pub scaled : (A a b : ℕ) {w : ℕ} → w ≤ b * A → w * nearest a b * 2 ≤ A * (2 * a + b)
scaled A a b h =
    le_trans (mul-le-mul_right 2 (mul-le-mul_right (nearest a b) h))
    (le_trans (le_of_eq (regroup A b (nearest a b))) (mul-le-mul_left A (nearest_mul a b)))
