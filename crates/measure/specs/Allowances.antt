-- The hatchway allowance and the water ballast test ("Gross and net"), on sums of tonnages in hundredths of a ton.
use Rattle.std.specs.Prelude.{ℕ, ◌-◌, ◌*◌, Bool, ltb}
use Rattle.measure.specs.Rounding.{nearest}

-- "The hatchway allowance is G/200, nearest, taken without the hatchways" (69.115(c))
unfoldable pub hatchway_allowance : ℕ → ℕ
hatchway_allowance g = nearest g 200

-- "the excess is the sum of all H less the allowance, or 0": a difference of numbers is 0 where it would be less
unfoldable pub hatchway_excess : ℕ → ℕ → ℕ
hatchway_excess g hatchways = hatchways - hatchway_allowance g

-- "If standing 2 adds up to more than 30% of it [the gross with only standing 1 taken off]" (69.117(f)(4)), exactly
unfoldable pub ballast_over : ℕ → ℕ → Bool
ballast_over ballast gross = ltb (3 * gross) (10 * ballast)
