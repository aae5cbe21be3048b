-- The starred figures of document 01 that this floor sees, as one table about the definitions.
use Rattle.std.proofs.Common.{◌≡◌, refl, true, false, replicate}
use Rattle.measure.specs.Kinds.{kind_of}
use Rattle.measure.specs.Rounding.{nearest}
use Rattle.measure.specs.Parts.{table_parts, step_parts, under_deck_parts, depth_parts, distance, nearer, nearest_parts, superstructure_parts}
use Rattle.measure.specs.Thirds.{third_of_length, third_of_depth}
use Rattle.measure.specs.Multipliers.{multiplier, weighted}
use Rattle.measure.specs.Volumes.{tons, hundredths, station_area, under_deck_volume, level_volume, box_volume}
use Rattle.measure.specs.Ranges.{includes}
use Rattle.measure.specs.Offsets.{in_range, stations, middle_of, counted, tonnage, measured, answered}
use Rattle.measure.specs.Allowances.{hatchway_allowance, hatchway_excess, ballast_over}

pub record Figures : Type 0 where
  pub table_5000 : (table_parts (hundredths 5000) ≡ 6) × ((third_of_length (hundredths 5000) 6).0 ≡ 2778)
  pub table_5001 : (table_parts (hundredths 5001) ≡ 8) × ((third_of_length (hundredths 5001) 8).0 ≡ 2084)
  pub table_25000 : (table_parts (hundredths 25000) ≡ 14) × ((third_of_length (hundredths 25000) 14).0 ≡ 5952)
  pub table_25001 : (table_parts (hundredths 25001) ≡ 16) × ((third_of_length (hundredths 25001) 16).0 ≡ 5209)
  pub step_2000 : (step_parts (hundredths 2000) ≡ 2) × ((third_of_length (hundredths 2000) 2).0 ≡ 3333)
  pub step_2001 : (step_parts (hundredths 2001) ≡ 4) × ((third_of_length (hundredths 2001) 4).0 ≡ 1668)
  pub step_3999 : (step_parts (hundredths 3999) ≡ 4) × ((third_of_length (hundredths 3999) 4).0 ≡ 3333)
  pub step_4000 : (step_parts (hundredths 4000) ≡ 6) × ((third_of_length (hundredths 4000) 6).0 ≡ 2222)
  pub middle_1600 : (depth_parts (hundredths 1600) ≡ 4) × ((third_of_depth (hundredths 1600) 4).0 ≡ 133)
  pub middle_1601 : (depth_parts (hundredths 1601) ≡ 6) × ((third_of_depth (hundredths 1601) 6).0 ≡ 89)
  pub box_U : measured 1 (hundredths 4800) (hundredths 4800) (replicate 7 1200) (replicate 35 2000) ≡ answered 0 11521
  pub box_B : measured 2 (hundredths 4800) (hundredths 4800) (replicate 7 700) (replicate 7 2000) ≡ answered 0 6721
  pub tie_S : superstructure_parts (hundredths 4500) (hundredths 2000) ≡ 4
  pub parts_S : superstructure_parts (hundredths 4800) (hundredths 1600) ≡ 2
  pub box_S : measured 3 (hundredths 4800) (hundredths 1600) (replicate 3 800) (replicate 3 1000) ≡ answered 0 1280
  pub excess : (hatchway_excess 20000 100 ≡ 0) × (hatchway_excess 20000 101 ≡ 1)
  pub ballast : (ballast_over 300 1000 ≡ false) × (ballast_over 301 1000 ≡ true)

pub figures : Figures
unfolding kind_of nearest table_parts step_parts under_deck_parts depth_parts distance nearer nearest_parts superstructure_parts third_of_length third_of_depth multiplier weighted tons station_area under_deck_volume level_volume box_volume includes in_range stations middle_of counted tonnage measured hatchway_allowance hatchway_excess ballast_over
figures =
    record {
      table_5000 = (refl, refl);
      table_5001 = (refl, refl);
      table_25000 = (refl, refl);
      table_25001 = (refl, refl);
      step_2000 = (refl, refl);
      step_2001 = (refl, refl);
      step_3999 = (refl, refl);
      step_4000 = (refl, refl);
      middle_1600 = (refl, refl);
      middle_1601 = (refl, refl);
      box_U = refl;
      box_B = refl;
      tie_S = refl;
      parts_S = refl;
      box_S = refl;
      excess = (refl, refl);
      ballast = (refl, refl);
    }
