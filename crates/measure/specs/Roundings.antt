-- What a space passes on of its roundings (T-04 of document 02): "Each U, B and S passes on the rounding of its length, a U also that of
-- every station's depth." Everywhere t is the tonnage length, l the space's length, and hs and bs its heights and breadths.
use Rattle.std.specs.Prelude.{ℕ, ◌-◌, ◌≤◌, ◌<◌, ◌≡◌, cond, List, ◌++◌, map, eqb, ℤ, pos, length, get_or, replicate}
use Rattle.measure.specs.Kinds.{kind_of}
use Rattle.measure.specs.Parts.{depth_parts}
use Rattle.measure.specs.Thirds.{rounding_of_depth, divided}
use Rattle.measure.specs.Volumes.{hundredths}
use Rattle.measure.specs.Offsets.{middle_of, measured}
use Rattle.measure.specs.declared.units.Hundredths.{Hundredths}
use Rattle.measure.specs.declared.kinds.Kind.{Kind}
use Rattle.measure.specs.declared.kinds.Kind.TheVariants.{UnderDeck, BetweenDeck, Superstructure, Hatchway, Room, NoKind}
use Rattle.measure.specs.declared.roundings.Roundings.{Roundings}
use Rattle.measure.specs.declared.offsets.MeasuredOffsets.{MeasuredOffsets}

-- of the depths at stations, each in m parts, from the bow; 0 in the places of the seventeen that no station has
unfoldable pub of_depths : ℕ → List ℕ → List ℤ
of_depths m depths = map (λ (d : ℕ). rounding_of_depth (hundredths d) m) depths ++ replicate (17 - length depths) (pos 0)

-- The same, a place at a time. `of_depths` are such a list, and no other is (measure_laws, Roundings).
pub record PlaceByPlace (m : ℕ) (depths : List ℕ) (found : List ℤ) : Type 0 where
  pub seventeen : length found ≡ 17
  pub at_a_station : (i : ℕ) → i < length depths → get_or found i (pos 0) ≡ rounding_of_depth (hundredths (get_or depths i 0)) m
  pub elsewhere : (i : ℕ) → length depths ≤ i → get_or found i (pos 0) ≡ pos 0

-- a space that isn't a U has none
abbrev pub no_depths : List ℤ
no_depths = replicate 17 (pos 0)

-- "a U also that of every station's depth"
abbrev pub depths_passed_on : Kind → List ℕ → List ℤ
depths_passed_on UnderDeck hs = of_depths (depth_parts (middle_of hs)) hs
depths_passed_on BetweenDeck hs = no_depths
depths_passed_on Superstructure hs = no_depths
depths_passed_on Hatchway hs = no_depths
depths_passed_on Room hs = no_depths
depths_passed_on NoKind hs = no_depths

-- an H or R isn't divided, and so passes 0 on
unfoldable pub passed_on : Kind → Hundredths → Hundredths → List ℕ → Roundings
passed_on k t l hs = record { length = (divided k t l).rounding; depths = depths_passed_on k hs }

-- what is refused passes nothing on
abbrev pub no_roundings : Roundings
no_roundings = record { length = pos 0; depths = no_depths }

-- what measuring answers of any offsets: the number and the tonnage, and the roundings of those that it accepts
unfoldable pub measured_offsets : ℕ → Hundredths → Hundredths → List ℕ → List ℕ → MeasuredOffsets
measured_offsets code t l hs bs =
    let m = measured code t l hs bs in
    record { measured = m; roundings = cond (eqb m.number 0) (passed_on (kind_of code) t l hs) no_roundings }
