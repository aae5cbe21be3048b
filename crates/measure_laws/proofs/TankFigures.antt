-- Figures of tanks (T-01), as one table about the definitions.
use Rattle.std.proofs.Common.{◌≡◌, refl, [], ◌∷◌, replicate}
use Rattle.measure.specs.Rounding.{nearest}
use Rattle.measure.specs.Parts.{table_parts, under_deck_parts, distance, nearer, nearest_parts}
use Rattle.measure.specs.Thirds.{third_of_length, third_of_depth}
use Rattle.measure.specs.Multipliers.{multiplier, weighted}
use Rattle.measure.specs.Zones.{zone_end, between, zone_of}
use Rattle.measure.specs.Sections.{layout_of, between_zones, sections, zone_of_station, section_zones}
use Rattle.measure.specs.Volumes.{tons, hundredths, station_area}
use Rattle.measure.specs.Ranges.{includes}
use Rattle.measure.specs.Offsets.{answered}
use Rattle.measure.specs.Tanks.{tank_volume, tank_in_range, passes_end, has_m, all_sections, measured_tank, lengths_fit, lay_out_number, laid_out}

pub record TankFigures : Type 0 where
  -- in 6 parts, the multipliers 1, 4, 2, 4, 2, 4, 1 added up
  pub zone_ends : (zone_end 6 1 ∷ zone_end 6 2 ∷ zone_end 6 3 ∷ zone_end 6 4 ∷ zone_end 6 5 ∷ zone_end 6 6 ∷ zone_end 6 7 ∷ []) ≡ 1 ∷ 5 ∷ 7 ∷ 11 ∷ 13 ∷ 17 ∷ 18 ∷ []
  -- the box U of document 01 as a tank of itself, and what is refused of it
  pub whole_box : measured_tank (hundredths 4800) (hundredths 4800) 4 (hundredths 4800) (hundredths 0) (replicate 7 1200) (replicate 35 2000) ≡ answered 0 11521
  pub fore_end_over : measured_tank (hundredths 4800) (hundredths 4800) 4 (hundredths 4800) (hundredths 150001) (replicate 7 1200) (replicate 35 2000) ≡ answered 2 0
  pub section_missing : measured_tank (hundredths 4800) (hundredths 4800) 4 (hundredths 4800) (hundredths 0) (replicate 6 1200) (replicate 30 2000) ≡ answered 3 0
  pub breadth_extra : measured_tank (hundredths 4800) (hundredths 4800) 4 (hundredths 4800) (hundredths 0) (replicate 7 1200) (replicate 36 2000) ≡ answered 3 0
  pub end_passed : measured_tank (hundredths 4800) (hundredths 4800) 4 (hundredths 4800) (hundredths 1) (replicate 6 1200) (replicate 30 2000) ≡ answered 9 0
  pub no_m : measured_tank (hundredths 4800) (hundredths 4800) 0 (hundredths 4800) (hundredths 0) (replicate 6 1200) (replicate 30 2000) ≡ answered 29 0
  -- A U of 36 ft has zones that end at 2, 10, 14, 22, 26 and 34 ft, and the stations of a tank of 12 ft are 6 ft apart: from 2 ft on two are
  -- just between zones, a hundredth before and after none.
  pub just_between : laid_out (hundredths 3600) (hundredths 3600) (hundredths 1200) (hundredths 200) ≡ record { number = 0; parts = 2; sections = 5 }
  pub a_hundredth_before : laid_out (hundredths 3600) (hundredths 3600) (hundredths 1200) (hundredths 199) ≡ record { number = 0; parts = 2; sections = 3 }
  pub a_hundredth_after : laid_out (hundredths 3600) (hundredths 3600) (hundredths 1200) (hundredths 201) ≡ record { number = 0; parts = 2; sections = 3 }
  pub zones_between : section_zones (layout_of (hundredths 3600) (hundredths 3600) (hundredths 1200) (hundredths 200)) ≡ 1 ∷ 2 ∷ 2 ∷ 3 ∷ 4 ∷ []
  pub zones_before : section_zones (layout_of (hundredths 3600) (hundredths 3600) (hundredths 1200) (hundredths 199)) ≡ 1 ∷ 2 ∷ 3 ∷ []
  pub zones_after : section_zones (layout_of (hundredths 3600) (hundredths 3600) (hundredths 1200) (hundredths 201)) ≡ 2 ∷ 2 ∷ 4 ∷ []
  -- of two sections the larger, here once the aft and once the fore one: a box of 12 by 12 by 10 ft
  pub larger_of_two : measured_tank (hundredths 3600) (hundredths 3600) 4 (hundredths 1200) (hundredths 200) (600 ∷ 1200 ∷ 1200 ∷ 1200 ∷ 600 ∷ []) (replicate 25 1000) ≡ answered 0 1440

pub tank_figures : TankFigures
unfolding nearest table_parts under_deck_parts distance nearer nearest_parts third_of_length third_of_depth multiplier weighted between zone_of layout_of between_zones sections zone_of_station section_zones tons station_area includes tank_volume tank_in_range passes_end has_m all_sections measured_tank lengths_fit lay_out_number laid_out
tank_figures =
    record {
      zone_ends = refl;
      whole_box = refl;
      fore_end_over = refl;
      section_missing = refl;
      breadth_extra = refl;
      end_passed = refl;
      no_m = refl;
      just_between = refl;
      a_hundredth_before = refl;
      a_hundredth_after = refl;
      zones_between = refl;
      zones_before = refl;
      zones_after = refl;
      larger_of_two = refl;
    }
