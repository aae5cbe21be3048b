-- Roundings worked by hand from document 01's rules (T-04). A rounding counts parts of the exact divisor: of a third interval of length parts of
-- 1/(3n) of a thousandth of a foot, of one of depth parts of 1/(3m) of a hundredth.
use Rattle.std.proofs.Common.{◌≡◌, refl, [], ◌∷◌, pos, negsuc, replicate}
use Rattle.measure.specs.Kinds.{kind_of}
use Rattle.measure.specs.Rounding.{nearest}
use Rattle.measure.specs.Parts.{table_parts, step_parts, under_deck_parts, depth_parts, distance, nearer, nearest_parts, superstructure_parts}
use Rattle.measure.specs.Thirds.{third_of_length, third_of_depth, rounding_of_length, rounding_of_depth, divided}
use Rattle.measure.specs.Multipliers.{multiplier, weighted}
use Rattle.measure.specs.Volumes.{tons, hundredths, station_area, under_deck_volume, level_volume, box_volume}
use Rattle.measure.specs.Ranges.{includes}
use Rattle.measure.specs.Offsets.{in_range, stations, middle_of, counted, tonnage, measured, answered}
use Rattle.measure.specs.Roundings.{of_depths, no_depths, passed_on, no_roundings, measured_offsets}

pub record RoundingFigures : Type 0 where
  -- document 01's box, 48 × 20 × 12 ft: the third interval is 2.667 for 2⅔ ft, 18 × 2667 − 48,000 = 6, a third of a thousandth up; so it has
  -- 115.21 for 115.20. Its depths are exact: 12 × 100 − 1,200 = 0.
  pub box_U : measured_offsets 1 (hundredths 4800) (hundredths 4800) (replicate 7 1200) (replicate 35 2000)
      ≡ record { measured = answered 0 11521; roundings = record { length = pos 6; depths = no_depths } }
  pub box_B : measured_offsets 2 (hundredths 4800) (hundredths 4800) (replicate 7 700) (replicate 7 2000)
      ≡ record { measured = answered 0 6721; roundings = record { length = pos 6; depths = no_depths } }
  -- two parts: 6 × 2667 − 16,000
  pub box_S : measured_offsets 3 (hundredths 4800) (hundredths 1600) (replicate 3 800) (replicate 3 1000)
      ≡ record { measured = answered 0 1280; roundings = record { length = pos 2; depths = no_depths } }
  -- a part made by a step: 6 × 3333 − 20,000 = −2; the middle depth gives m 4, and 12 × 100 − 1,200 = 0, 12 × 133 − 1,600 = −4,
  -- 12 × 101 − 1,207 = 5
  pub step_U : (measured_offsets 1 (hundredths 4800) (hundredths 2000) (1200 ∷ 1600 ∷ 1207 ∷ []) (replicate 15 2000)).roundings
      ≡ record { length = negsuc 1; depths = pos 0 ∷ negsuc 3 ∷ pos 5 ∷ replicate 14 (pos 0) }
  -- a half goes up: 12 × 1668 − 20,010 = 6
  pub half_of_length : rounding_of_length (hundredths 2001) 4 ≡ pos 6
  -- of a depth too, 18 × 89 − 1,593 = 9; a hundredth less goes down, 18 × 88 − 1,592 = −8
  pub half_of_depth : (rounding_of_depth (hundredths 1593) 6 ≡ pos 9) × (rounding_of_depth (hundredths 1592) 6 ≡ negsuc 7)
  -- neither is divided
  pub hatchway : (measured_offsets 4 (hundredths 4800) (hundredths 501) (500 ∷ []) (400 ∷ [])).roundings ≡ no_roundings
  pub room : (measured_offsets 5 (hundredths 4800) (hundredths 501) (500 ∷ []) (400 ∷ [])).roundings ≡ no_roundings
  -- refused with 2, a depth over its range, and with 3, a station missing
  pub refused : ((measured_offsets 1 (hundredths 4800) (hundredths 4800) (20001 ∷ replicate 6 1201) (replicate 35 2000)).roundings ≡ no_roundings)
      × ((measured_offsets 1 (hundredths 4800) (hundredths 4800) (replicate 6 1201) (replicate 35 2000)).roundings ≡ no_roundings)

pub rounding_figures : RoundingFigures
unfolding kind_of nearest table_parts step_parts under_deck_parts depth_parts distance nearer nearest_parts superstructure_parts third_of_length third_of_depth rounding_of_length rounding_of_depth divided multiplier weighted tons station_area under_deck_volume level_volume box_volume includes in_range stations middle_of counted tonnage measured of_depths passed_on measured_offsets
rounding_figures =
    record {
      box_U = refl;
      box_B = refl;
      box_S = refl;
      step_U = refl;
      half_of_length = refl;
      half_of_depth = (refl, refl);
      hatchway = refl;
      room = refl;
      refused = (refl, refl);
    }
