-- The sections of a tank (69.117(g)(3)(iii)). A layout a says how a tank lies along its U: n and u are the parts and the length of the
-- U, p and l those of the tank, f the distance of the tank's fore end along the U.
use Rattle.std.specs.Prelude.{ℕ, zero, suc, ◌+◌, ◌*◌, Bool, cond, List, [], ◌∷◌, ◌++◌}
use Rattle.measure.specs.Parts.{under_deck_parts, nearest_parts}
use Rattle.measure.specs.Zones.{Point, between, zone_of}
use Rattle.measure.specs.declared.units.Hundredths.{Hundredths}
use Rattle.measure.specs.declared.sections.Layout.{Layout}

-- "Its length is divided as an S is, with that U's interval as the reference"; t is the tonnage length
unfoldable pub layout_of : Hundredths → Hundredths → Hundredths → Hundredths → Layout
layout_of t u l f =
    let n = under_deck_parts t u in
    record { n = n; u = u; p = nearest_parts u n l; l = l; f = f }

-- "Tank station j, from 0 to p, lies at fore + j × length / p along the U."
abbrev pub station_at : Layout → ℕ → Point
station_at a j = record { over = a.f.0 * a.p + j * a.l.0; under = a.p }

-- "a tank station falls exactly between two zones"
unfoldable pub between_zones : Layout → ℕ → Bool
between_zones a j = between a.n a.u (station_at a j)

-- the same of so many stations from station j on
abbrev pub between_from : Layout → ℕ → ℕ → List Bool
between_from a j zero = []
between_from a j (suc left) = between_zones a j ∷ between_from a (j + 1) left

-- and of all p + 1, from the bow: these are doubled
abbrev pub doubled : Layout → List Bool
doubled a = between_from a 0 (a.p + 1)

-- the sections of stations of which these are doubled: "one a tank station, and two .. where a station is between two zones"
abbrev pub sections_over : List Bool → ℕ
sections_over [] = 0
sections_over (two ∷ later) = cond two 2 1 + sections_over later

unfoldable pub sections : Layout → ℕ
sections a = sections_over (doubled a)

-- the number, from 1, of the under-deck station in whose zone a tank station lies, of two the fore one
unfoldable pub zone_of_station : Layout → ℕ → ℕ
zone_of_station a j = zone_of a.n a.u (station_at a j)

-- that of each section at a tank station, "fore zone first"
abbrev pub zones_at : Layout → ℕ → List ℕ
zones_at a j =
    let k = zone_of_station a j in
    k ∷ cond (between_zones a j) ((k + 1) ∷ []) []

-- that of each section of so many stations from station j on
abbrev pub zones_from : Layout → ℕ → ℕ → List ℕ
zones_from a j zero = []
zones_from a j (suc left) = zones_at a j ++ zones_from a (j + 1) left

-- and of all sections, from the bow
unfoldable pub section_zones : Layout → List ℕ
section_zones a = zones_from a 0 (a.p + 1)
