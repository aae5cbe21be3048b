-- Zones of influence (69.117(g)(3)(ii)): "Each under-deck station has a zone of as many thirds of the interval as its multiplier, and the
-- zones fill the length with no gap." Everywhere n is the number of parts of the U and u its length. Points along the U are exact
-- fractions, compared by products: no quotient is taken.
use Rattle.std.specs.Prelude.{ℕ, zero, suc, ◌+◌, ◌*◌, ◌≤◌, Bool, false, cond, ◌||◌, eqb, ltb}
use Rattle.measure.specs.Multipliers.{multiplier}
use Rattle.measure.specs.declared.units.Hundredths.{Hundredths}

-- where the zone of the station with number k, from 1, ends, in thirds of an interval: "(sum of the first k multipliers)"
abbrev pub zone_end : ℕ → ℕ → ℕ
zone_end n zero = 0
zone_end n (suc k) = zone_end n k + multiplier n (suc k)

-- and where it begins: where the zone before it ends, or with the U
abbrev pub zone_start : ℕ → ℕ → ℕ
zone_start n zero = 0
zone_start n (suc k) = zone_end n k

-- a distance along the U from its fore end, in hundredths of a foot, as a fraction
pub record Point : Type 0 where
  pub over : ℕ
  pub under : ℕ

-- two points are one; the first lies before the second
abbrev pub meets : Point → Point → Bool
meets x y = eqb (x.over * y.under) (y.over * x.under)

abbrev pub before : Point → Point → Bool
before x y = ltb (x.over * y.under) (y.over * x.under)

-- the end of zone k: so many thirds, each of u / (3 n)
abbrev pub end_at : ℕ → Hundredths → ℕ → Point
end_at n u k = record { over = zone_end n k * u.0; under = 3 * n }

-- the point is the end of one of the first k zones
abbrev pub end_met : ℕ → Hundredths → Point → ℕ → Bool
end_met n u x zero = false
end_met n u x (suc k) = meets x (end_at n u (suc k)) || end_met n u x k

-- "between two zones where that equals, as fractions, the end of a zone that isn't the last": there are n + 1
unfoldable pub between : ℕ → Hundredths → Point → Bool
between n u x = end_met n u x n

-- of the ends of the first k zones so many lie before the point
abbrev pub ends_before : ℕ → Hundredths → Point → ℕ → ℕ
ends_before n u x zero = 0
ends_before n u x (suc k) = ends_before n u x k + cond (before (end_at n u (suc k)) x) 1 0

-- the number of the station in whose zone the point lies, of two zones the fore one
unfoldable pub zone_of : ℕ → Hundredths → Point → ℕ
zone_of n u x = ends_before n u x n + 1

-- The same as a statement, of a point x / d in thirds of an interval: it lies in the zone of station k, both ends included. Every point
-- of the U lies in one zone, or in two where it is between them (measure_laws, Zones).
pub record InZone (n k x d : ℕ) : Type 0 where
  pub from : zone_start n k * d ≤ x
  pub upto : x ≤ zone_end n k * d
