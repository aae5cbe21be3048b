-- Areas, volumes and tonnages ("U", "B and S", "H and R").
use Rattle.std.specs.Prelude.{ℕ, ◌+◌, ◌*◌, ◌<◌, ◌≡◌, List, [], ◌∷◌, length, take, drop, get_or}
use Rattle.measure.specs.Rounding.{nearest}
use Rattle.measure.specs.Thirds.{third_of_length, third_of_depth}
use Rattle.measure.specs.Multipliers.{weighted, total}
use Rattle.measure.specs.declared.units.Hundredths.{Hundredths}

-- cubic feet as an exact fraction
pub record CubicFeet : Type 0 where
  pub over : ℕ
  pub under : ℕ

-- "Tonnage is in hundredths of a ton of 100 cubic feet", so a hundredth of a ton is a cubic foot.
-- "A space's tonnage is rounded once, from the exact fraction that its offsets and the rounded third intervals give."
unfoldable pub tons : CubicFeet → ℕ
tons v = nearest v.over v.under

abbrev pub hundredths : ℕ → Hundredths
hundredths x = record { 0 = x }

-- "Station area: [the breadths with their multipliers;] the sum times that station's third interval of depth."
unfoldable pub station_area : ℕ → Hundredths → List ℕ → ℕ
station_area m d breadths = weighted m breadths * (third_of_depth d m).0

-- the stations' areas from the bow: "Each station has m+1 breadths, from above", the next ones of the list
abbrev pub areas : ℕ → List ℕ → List ℕ → List ℕ
areas m [] breadths = []
areas m (d ∷ depths) breadths = station_area m (hundredths d) (take (m + 1) breadths) ∷ areas m depths (drop (m + 1) breadths)

-- The same, a station at a time: as many areas as depths, and the station with i before it has the m + 1 breadths that follow theirs.
-- `areas` are such a list, and no other is (measure_laws, Stations).
pub record StationByStation (m : ℕ) (depths breadths found : List ℕ) : Type 0 where
  pub as_many : length found ≡ length depths
  pub each : (i : ℕ) → i < length depths
      → get_or found i 0 ≡ station_area m (hundredths (get_or depths i 0)) (take (m + 1) (drop (i * (m + 1)) breadths))

-- "The same multipliers over the areas, times the third interval of length, give the volume." Breadths and thirds of depth are
-- hundredths of a foot, thirds of length thousandths.
abbrev pub volume_over : Hundredths → ℕ → List ℕ → CubicFeet
volume_over l n areas = record { over = weighted n areas * (third_of_length l n).0; under = 100 * 100 * 1000 }

-- U, in n parts of length and m of depth
unfoldable pub under_deck_volume : Hundredths → ℕ → ℕ → List ℕ → List ℕ → CubicFeet
under_deck_volume l n m depths breadths = volume_over l n (areas m depths breadths)

-- B and S: "The multipliers over the breadths, times the third interval of length, give an area; times the plain mean of the heights
-- gives the volume." There are n + 1 heights.
unfoldable pub level_volume : Hundredths → ℕ → List ℕ → List ℕ → CubicFeet
level_volume l n heights breadths =
    record { over = weighted n breadths * (third_of_length l n).0 * total heights; under = 100 * 100 * 1000 * (n + 1) }

-- H and R: "Length times breadth times height."
unfoldable pub box_volume : Hundredths → ℕ → ℕ → CubicFeet
box_volume l height breadth = record { over = l.0 * breadth * height; under = 100 * 100 * 100 }

-- what is no space has no volume
abbrev pub no_volume : CubicFeet
no_volume = record { over = 0; under = 1 }
