-- The difference of two numbers as a signed one, by which of them is greater.
use Rattle.std.proofs.Common.{◌≡◌, ap, ℕ, zero, suc, ◌-◌, ◌≤◌, ◌<◌, arith, pos, negsuc, ◌-ℤ◌, le-ltb, lt-ltb}

pub minus_above : (x a : ℕ) → a ≤ x → pos x -ℤ pos a ≡ pos (x - a)
minus_above x zero h = ap pos (omega arith)
minus_above x (suc a) h = simp (le-ltb x (suc a) h)

pub minus_below : (x a : ℕ) → x < a → pos x -ℤ pos a ≡ negsuc (a - suc x)
minus_below x zero h = absurd (omega arith)
minus_below x (suc a) h = simp (lt-ltb x (suc a) h)
