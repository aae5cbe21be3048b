-- The ends of a U (T-02 of document 02): "A transverse section at an end of the tonnage length may not yield area, except in vessels ..
-- with an upright bow or stern" (69.109(k)(1)). Here is what its first and its last section yield. Everywhere t is the tonnage length and
-- l the U's length, ds and bs the depths and breadths at its stations.
use Rattle.std.specs.Prelude.{ℕ, ◌-◌, ◌≡◌, cond, ◌&&◌, List, [], ◌∷◌, ◌++◌, length, get_or}
use Rattle.measure.specs.Parts.{depth_parts}
use Rattle.measure.specs.Volumes.{areas}
use Rattle.measure.specs.Offsets.{in_range, middle_of, counted}
use Rattle.measure.specs.declared.units.Hundredths.{Hundredths}
use Rattle.measure.specs.declared.kinds.Kind.TheVariants.{UnderDeck}
use Rattle.measure.specs.declared.ends.EndAreas.{EndAreas}

-- the areas of a U's sections from the bow: those that its volume sums (measure_laws, Ends)
abbrev pub section_areas : List ℕ → List ℕ → List ℕ
section_areas ds bs = areas (depth_parts (middle_of ds)) ds bs

-- "its station's area, as the rules give it (with the rounded third interval)": of the first station and of the last
unfoldable pub ends_of : List ℕ → List ℕ → EndAreas
ends_of ds bs = record { fore = get_or (section_areas ds bs) 0 0; aft = get_or (section_areas ds bs) (length ds - 1) 0 }

-- The same, where there are two sections or more: the first of the list and the last, and the others between. `ends_of` are such areas, and
-- no others are (measure_laws, Ends).
pub record FirstAndLast (areas : List ℕ) (e : EndAreas) : Type 0 where
  pub between : List ℕ
  pub in_order : areas ≡ e.fore ∷ (between ++ (e.aft ∷ []))

-- what is answered of any offsets: where 2 or 3 applies, 0 and 0
unfoldable pub end_areas : Hundredths → Hundredths → List ℕ → List ℕ → EndAreas
end_areas t l ds bs =
    cond (in_range UnderDeck t l ds bs && counted UnderDeck t l ds bs) (ends_of ds bs) (record { fore = 0; aft = 0 })
