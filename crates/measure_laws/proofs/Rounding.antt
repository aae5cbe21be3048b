-- `nearest` is within a half, the greater on a half, and nothing else is.
use Rattle.std.proofs.Common.{◌≡◌, ⊎_elim, ℕ, ◌+◌, ◌*◌, ◌≤◌, ◌<◌, eq-or-lt_of_le, mul_comm, mul_left_comm, add-mul, arith}
use native.Mathlib.Nat.{div-eq_of_lt-le}
use Rattle.measure.specs.Rounding.{nearest, Nearest}
use Rattle.measure.proofs.Laws.Rounding.{nearest_within}

-- r (2 b) in terms of the product b r
doubled : (b r : ℕ) → r * (2 * b) ≡ 2 * (b * r)
doubled b r = omega (arith, mul_left_comm r 2 b, mul_comm r b)

pub nearest_is : (a b : ℕ) → 0 < b → Nearest a b (nearest a b)
nearest_is a b h =
    let w = nearest_within a b h in
    record { within_a_half = omega arith; half_goes_up = λ q. omega arith }

pub nearest_only : (a b r : ℕ) → 0 < b → Nearest a b r → nearest a b ≡ r
unfolding nearest
nearest_only a b r h n =
    let e = doubled b r in
    let w = n.within_a_half in
    let le : 2 * a ≤ 2 * (b * r) + b = omega arith in
    let s : 2 * a < 2 * (b * r) + b = ⊎_elim (λ q. let u = n.half_goes_up (omega arith) in omega arith) (λ g. g) (eq-or-lt_of_le le) in
    div-eq_of_lt-le (2 * b) (omega arith) (omega (arith, add-mul r 1 (2 * b)))
