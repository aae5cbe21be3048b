-- A product of two numbers with numerals for bounds.
use Rattle.std.proofs.Common.{ℕ, ◌+◌, ◌*◌, ◌^◌, ◌≤◌, ◌<◌, mul-le-mul, lt_of_le_of_lt, arith, T, ltb, ltb→lt}

pub at_most : (A B : ℕ) {a b : ℕ} → a ≤ A → b ≤ B → a * b ≤ A * B
at_most A B ha hb = mul-le-mul ha hb

-- below a numeral, which is compared with the bounds' product by computing
pub below : (A B K : ℕ) {a b : ℕ} → T (ltb (A * B) K) → a ≤ A → b ≤ B → a * b < K
below A B K t ha hb = lt_of_le_of_lt (mul-le-mul ha hb) (ltb→lt (A * B) K t)

-- a point of the U, told times 3 n p, fits
pub point_fits : (f p j l n : ℕ) → f < 2 ^ 32 → p ≤ 16 → j ≤ 16 → l < 2 ^ 32 → n ≤ 16 → (f * p + j * l) * (3 * n) < 2 ^ 64
point_fits f p j l n hf hp hj hl hn =
    let a : f * p ≤ 2 ^ 32 * 16 = at_most (2 ^ 32) 16 (omega arith) hp in
    let b : j * l ≤ 16 * 2 ^ 32 = at_most 16 (2 ^ 32) hj (omega arith) in
    below (2 * (2 ^ 32 * 16)) 48 (2 ^ 64) tt (omega arith) (omega arith)
