-- Third intervals ("Units and roundings"): "a longitudinal third interval is in thousandths of a foot, a third interval of depth
-- in hundredths; the two scales are kept apart throughout."
use Rattle.std.specs.Prelude.{ℕ, ◌*◌, ◌%◌, ◌<◌, ◌≡◌, ◌↔◌, cond, eqb, ℤ, pos, neg_ℤ, ◌+ℤ◌, ◌-ℤ◌, ◌<ℤ◌, ◌≤ℤ◌}
use Rattle.measure.specs.Rounding.{nearest}
use Rattle.measure.specs.Parts.{parts_of}
use Rattle.measure.specs.declared.units.Hundredths.{Hundredths}
use Rattle.measure.specs.declared.units.Thousandths.{Thousandths}
use Rattle.measure.specs.declared.kinds.Kind.{Kind}
use Rattle.measure.specs.declared.thirds.Division.{Division}

-- "Third interval of a length L in n parts: 10L/(3n), nearest."
unfoldable pub third_of_length : Hundredths → ℕ → Thousandths
third_of_length l n = record { 0 = nearest (10 * l.0) (3 * n) }

-- "Of a depth D in m parts: D/(3m), nearest."
unfoldable pub third_of_depth : Hundredths → ℕ → Hundredths
third_of_depth d m = record { 0 = nearest d.0 (3 * m) }

-- "Each third interval now also gives its rounding, as a signed number of parts of its exact divisor" (T-04 of document 02): of a length
-- 3n × third − 10L parts of 1/(3n)
unfoldable pub rounding_of_length : Hundredths → ℕ → ℤ
rounding_of_length l n = pos (3 * n * (third_of_length l n).0) -ℤ pos (10 * l.0)

-- of a depth 3m × third − D parts of 1/(3m)
unfoldable pub rounding_of_depth : Hundredths → ℕ → ℤ
rounding_of_depth d m = pos (3 * m * (third_of_depth d m).0) -ℤ pos d.0

-- The same said of an exact fraction a / b, the whole number r that stands for it and the rounding z: with z the exact fraction comes back,
-- and twice z is over minus the divisor and at most the divisor. Each third interval and its rounding are two such numbers, and no other two
-- are (measure_laws, Roundings).
pub record Rounded (a b r : ℕ) (z : ℤ) : Type 0 where
  pub comes_back : pos (b * r) -ℤ z ≡ pos a
  pub over_minus_a_half : neg_ℤ (pos b) <ℤ (z +ℤ z)
  pub at_most_a_half : (z +ℤ z) ≤ℤ pos b

-- "above zero when rounded up, zero when exact, else below": r is above a / b, is a / b, is below it; and it is exact where b divides a
pub record SignSays (a b r : ℕ) (z : ℤ) : Type 0 where
  pub rounded_up : (pos 0 <ℤ z) ↔ (a < b * r)
  pub exact : (z ≡ pos 0) ↔ (a ≡ b * r)
  pub below : (z <ℤ pos 0) ↔ (b * r < a)
  pub whole : (z ≡ pos 0) ↔ (a % b ≡ 0)

-- how a space's length is divided, where t is the tonnage length; 0 each where it isn't
unfoldable pub divided : Kind → Hundredths → Hundredths → Division
divided k t l =
    let n = parts_of k t l in
    cond (eqb n 0)
    (record { parts = 0; third = record { 0 = 0 }; rounding = pos 0 })
    (record { parts = n; third = third_of_length l n; rounding = rounding_of_length l n })
