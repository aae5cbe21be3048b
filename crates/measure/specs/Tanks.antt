-- Tanks that follow the hull (69.117(g)(3); T-01 of document 02): where a tank is measured, its tonnage from its sections, or the refusal.
-- Everywhere t is the tonnage length, u the length of the U and m its number of parts of depth; l is the tank's length and f the distance
-- of its fore end along the U. Depths (ds) are one a section, breadths (bs) m + 1 a section, from the bow and from above.
use Rattle.std.specs.Prelude.{ℕ, ◌+◌, ◌*◌, ◌≤◌, Bool, true, false, cond, not, ◌&&◌, ◌||◌, List, [], ◌∷◌, leb, ltb, eqb, length, get_or}
use Rattle.measure.specs.Sections.{layout_of, doubled, sections, section_zones}
use Rattle.measure.specs.Volumes.{CubicFeet, tons, areas, volume_over}
use Rattle.measure.specs.Ranges.{includes, includes_all, tonnage_lengths, lengths, fores, heights, breadths}
use Rattle.measure.specs.Refusals.{first_of}
use Rattle.measure.specs.Offsets.{answered}
use Rattle.measure.specs.declared.units.Hundredths.{Hundredths}
use Rattle.measure.specs.declared.kinds.Kind.TheVariants.{UnderDeck, Room}
use Rattle.measure.specs.declared.sections.Layout.{Layout}
use Rattle.measure.specs.declared.offsets.Measured.{Measured}
use Rattle.measure.specs.declared.tanks.LaidOut.{LaidOut}

-- ---- the volume

abbrev pub larger : ℕ → ℕ → ℕ
larger a b = cond (leb a b) b a

-- the areas of stations, of which these are doubled, from those of their sections: "Of two at one station the larger area is taken". It
-- ends where a section is missing, which 3 refuses.
abbrev pub taken : List Bool → List ℕ → List ℕ
taken [] areas = []
taken (two ∷ later) [] = []
taken (false ∷ later) (a ∷ areas) = a ∷ taken later areas
taken (true ∷ later) (a ∷ []) = []
taken (true ∷ later) (a ∷ b ∷ areas) = larger a b ∷ taken later areas

-- The same as a statement: these are the areas that the stations take. Where no section is missing or extra, `taken` are such areas, and
-- no others are (measure_laws, Tanks).
pub data Takes : List Bool → List ℕ → List ℕ → Type 0 where
  none : Takes [] [] []
  the_one : {a : ℕ} {two : List Bool} {areas found : List ℕ} → Takes two areas found → Takes (false ∷ two) (a ∷ areas) (a ∷ found)
  the_fore_one : {a b : ℕ} {two : List Bool} {areas found : List ℕ} → b ≤ a → Takes two areas found → Takes (true ∷ two) (a ∷ b ∷ areas) (a ∷ found)
  the_aft_one : {a b : ℕ} {two : List Bool} {areas found : List ℕ} → a ≤ b → Takes two areas found → Takes (true ∷ two) (a ∷ b ∷ areas) (b ∷ found)

-- "A section's area is a station's area with the U's m"; "the multipliers over the p+1 areas, times the third interval of the tank's
-- length in p parts"
unfoldable pub tank_volume : Layout → ℕ → List ℕ → List ℕ → CubicFeet
tank_volume a m ds bs = volume_over a.l a.p (taken (doubled a) (areas m ds bs))

-- ---- the refusals

-- 2: the length as a room's, "2 for a fore end over 150,000", "depth and breadths in a station's ranges", or it applies; t and u stand on
-- a sheet, and were judged there
unfoldable pub tank_in_range : Hundredths → Hundredths → List ℕ → List ℕ → Bool
tank_in_range l f ds bs =
    includes (lengths Room) l.0
    && includes fores f.0
    && includes_all (heights UnderDeck) ds
    && includes_all (breadths UnderDeck) bs

-- 9: "the tank passes an end of its U"
unfoldable pub passes_end : Hundredths → Hundredths → Hundredths → Bool
passes_end u l f = ltb u.0 (f.0 + l.0)

-- 29 where not: "that U has no m"
unfoldable pub has_m : ℕ → Bool
has_m m = eqb m 4 || eqb m 6

-- "both judged only in a standing U with m whose ends the tank doesn't pass"
abbrev pub measurable : Hundredths → ℕ → Hundredths → Hundredths → Bool
measurable u m l f = has_m m && not (passes_end u l f)

-- 3 where not: "a section or breadth is missing or extra"
unfoldable pub all_sections : Layout → ℕ → List ℕ → List ℕ → Bool
all_sections a m ds bs = eqb (length ds) (sections a) && eqb (length bs) (length ds * (m + 1))

-- in the table's order: 3 is judged only where neither 9 nor 29 applies
unfoldable pub measured_tank : Hundredths → Hundredths → ℕ → Hundredths → Hundredths → List ℕ → List ℕ → Measured
measured_tank t u m l f ds bs =
    let a = layout_of t u l f in
    answered
    (first_of
    ((not (tank_in_range l f ds bs), 2)
    ∷ (measurable u m l f && not (all_sections a m ds bs), 3)
    ∷ (passes_end u l f, 9)
    ∷ (not (has_m m), 29)
    ∷ []))
    (tons (tank_volume a m ds bs))

-- ---- where to measure

-- 2 where not: "a length outside its range, fore over 150,000"
unfoldable pub lengths_fit : Hundredths → Hundredths → Hundredths → Hundredths → Bool
lengths_fit t u l f =
    includes tonnage_lengths t.0 && includes (lengths UnderDeck) u.0 && includes (lengths Room) l.0 && includes fores f.0

-- "refused with 2 .. or 9 (passes an end)"
unfoldable pub lay_out_number : Hundredths → Hundredths → Hundredths → Hundredths → ℕ
lay_out_number t u l f = first_of ((not (lengths_fit t u l f), 2) ∷ (passes_end u l f, 9) ∷ [])

-- the tank's parts, and how many sections it asks; 0 and 0 where refused
unfoldable pub laid_out : Hundredths → Hundredths → Hundredths → Hundredths → LaidOut
laid_out t u l f =
    let n = lay_out_number t u l f in
    let a = layout_of t u l f in
    record { number = n; parts = cond (eqb n 0) a.p 0; sections = cond (eqb n 0) (sections a) 0 }

-- the number of the under-deck station in whose zone section i, from 0, falls; 0 where there is no such section
unfoldable pub section_station : Hundredths → Hundredths → Hundredths → Hundredths → ℕ → ℕ
section_station t u l f i = cond (eqb (lay_out_number t u l f) 0) (get_or (section_zones (layout_of t u l f)) i 0) 0
