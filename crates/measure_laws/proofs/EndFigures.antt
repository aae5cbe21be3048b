-- Areas at the ends of a U, worked by hand from document 01's rules (T-02). Breadths and third intervals are hundredths of a foot, so areas
-- are ten-thousandths of a square foot.
use Rattle.std.proofs.Common.{◌≡◌, refl, [], ◌∷◌, ◌++◌, replicate}
use Rattle.measure.specs.Kinds.{kind_of}
use Rattle.measure.specs.Rounding.{nearest}
use Rattle.measure.specs.Parts.{table_parts, step_parts, under_deck_parts, depth_parts}
use Rattle.measure.specs.Thirds.{third_of_length, third_of_depth}
use Rattle.measure.specs.Multipliers.{multiplier, weighted}
use Rattle.measure.specs.Volumes.{hundredths, tons, station_area, under_deck_volume}
use Rattle.measure.specs.Ranges.{includes}
use Rattle.measure.specs.Offsets.{in_range, stations, middle_of, counted, tonnage, answered, measured}
use Rattle.measure.specs.Ends.{ends_of}

pub record EndFigures : Type 0 where
  -- document 01's box: 12 × 20.00 ft × 1.00 ft at either end
  pub box : ends_of (replicate 7 1200) (replicate 35 2000) ≡ record { fore = 2400000; aft = 2400000 }
  -- "depth 0, breadths all 0 .. pass"
  pub depth_0 : ends_of (0 ∷ replicate 6 1200) (replicate 35 2000) ≡ record { fore = 0; aft = 2400000 }
  pub breadths_0 : ends_of (replicate 7 1200) (replicate 30 2000 ++ replicate 5 0) ≡ record { fore = 2400000; aft = 0 }
  -- "or a third interval that rounds to 0": 0.05 ft / 12 does and 0.06 ft / 12 is 0.01 ft; with m 6 it is 0.08 ft / 18 and 0.09 ft / 18
  pub third_of_5 : (ends_of (5 ∷ replicate 6 1200) (replicate 35 2000)).fore ≡ 0
  pub third_of_6 : (ends_of (6 ∷ replicate 6 1200) (replicate 35 2000)).fore ≡ 24000
  pub third_of_8 : (ends_of (replicate 6 1700 ++ (8 ∷ [])) (replicate 49 2000)).aft ≡ 0
  pub third_of_9 : (ends_of (replicate 6 1700 ++ (9 ∷ [])) (replicate 49 2000)).aft ≡ 36000
  -- one breadth of 0.01 ft, the lowest
  pub one_breadth : (ends_of (replicate 7 1200) (0 ∷ 0 ∷ 0 ∷ 0 ∷ 1 ∷ replicate 30 2000)).fore ≡ 100
  -- the box with no depth at its ends: 16 of the 18 multipliers are left, and 240 × 16 × 2.667 = 10241.28
  pub other_sections : measured 1 (hundredths 4800) (hundredths 4800) (0 ∷ replicate 5 1200 ++ (0 ∷ [])) (replicate 35 2000) ≡ answered 0 10241

pub end_figures : EndFigures
unfolding kind_of nearest table_parts step_parts under_deck_parts depth_parts third_of_length third_of_depth multiplier weighted tons station_area under_deck_volume includes in_range stations middle_of counted tonnage measured ends_of
end_figures =
    record {
      box = refl;
      depth_0 = refl;
      breadths_0 = refl;
      third_of_5 = refl;
      third_of_6 = refl;
      third_of_8 = refl;
      third_of_9 = refl;
      one_breadth = refl;
      other_sections = refl;
    }
