-- "Nearest" means a half goes up ("Units and roundings").
use Rattle.std.specs.Prelude.{ℕ, ◌+◌, ◌-◌, ◌*◌, ◌/◌, ◌≤◌, ◌≡◌}

-- a / b to the nearest whole number: a / b + 1/2, cut off
unfoldable pub nearest : ℕ → ℕ → ℕ
nearest a b = (2 * a + b) / (2 * b)

-- how far two numbers are apart
abbrev pub apart : ℕ → ℕ → ℕ
apart a b = (a - b) + (b - a)

-- The same said of the number itself: r is within a half of a / b and, where it is just a half away, above it (all of it times
-- 2 b). `nearest` is such a number, and no other is (measure_laws, Rounding).
pub record Nearest (a b r : ℕ) : Type 0 where
  pub within_a_half : 2 * apart a (b * r) ≤ b
  pub half_goes_up : 2 * apart a (b * r) ≡ b → a ≤ b * r
