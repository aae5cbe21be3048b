-- Document 01's box entered on a sheet just opened, with its ends said so (T-02): the number that is answered, and the tonnage.
use Rattle.std.proofs.Common.{ℕ, ◌≡◌, refl, List, [], ◌∷◌, ◌++◌, replicate}
use Rattle.measure.specs.Kinds.{kind_of}
use Rattle.measure.specs.Rounding.{nearest}
use Rattle.measure.specs.Parts.{table_parts, step_parts, under_deck_parts, depth_parts}
use Rattle.measure.specs.Thirds.{third_of_length, third_of_depth}
use Rattle.measure.specs.Multipliers.{multiplier, weighted}
use Rattle.measure.specs.Volumes.{hundredths, tons, station_area, under_deck_volume}
use Rattle.measure.specs.Ranges.{includes}
use Rattle.measure.specs.Offsets.{in_range, stations, middle_of, counted, tonnage, measured}
use Rattle.measure.specs.Ends.{ends_of}
use Rattle.spaces.specs.Enclosure.{above}
use Rattle.standard.specs.Standings.{may_take}
use Rattle.sheet.specs.Sheet.{usable, blank}
use Rattle.sheet.specs.Ends.{ends_fit, pointed_with_area}
use Rattle.sheet.specs.Calls.{opened_with, entry_of, space_of, entered}
use Rattle.sheet.specs.declared.calls.Entry.{Entry}

abbrev pub box : (fore aft : ℕ) → Entry
box fore aft = record { id = 1; within = 0; kind = 1; standing = 0; fore_end = fore; aft_end = aft; deck = 0; length = hundredths 4800 }

-- all of it 12 ft deep, and with no depth at its ends
abbrev pub whole : List ℕ
whole = replicate 7 1200

abbrev pub tapered : List ℕ
tapered = 0 ∷ replicate 5 1200 ++ (0 ∷ [])

abbrev pub number_of : (fore aft : ℕ) → List ℕ → ℕ
number_of fore aft depths = (entered (opened_with (hundredths 4800) 0).sheet (box fore aft) depths (replicate 35 2000)).number

abbrev pub tonnage_of : (fore aft : ℕ) → List ℕ → ℕ
tonnage_of fore aft depths = (space_of (hundredths 4800) (box fore aft) depths (replicate 35 2000)).tonnage

pub record BoxEnds : Type 0 where
  -- "Document 01's box is upright at both ends; its figure stands."
  pub upright : (number_of 2 2 whole ≡ 0) × (tonnage_of 2 2 whole ≡ 11521)
  pub inner : number_of 1 1 whole ≡ 0
  pub pointed_fore : number_of 3 2 whole ≡ 19
  pub pointed_aft : number_of 2 3 whole ≡ 19
  pub pointed_both : number_of 3 3 whole ≡ 19
  -- with no area at its ends: the tonnage of the other sections
  pub tapered_pointed : (number_of 3 3 tapered ≡ 0) × (tonnage_of 3 3 tapered ≡ 10241)
  -- "any other number there is 2"
  pub unsaid : (number_of 0 2 whole ≡ 2) × (number_of 2 4 whole ≡ 2)

pub box_ends : BoxEnds
unfolding kind_of nearest table_parts step_parts under_deck_parts depth_parts third_of_length third_of_depth multiplier weighted tons station_area under_deck_volume includes in_range stations middle_of counted tonnage measured ends_of above may_take usable blank ends_fit pointed_with_area opened_with entry_of entered
box_ends =
    record {
      upright = (refl, refl);
      inner = refl;
      pointed_fore = refl;
      pointed_aft = refl;
      pointed_both = refl;
      tapered_pointed = (refl, refl);
      unsaid = (refl, refl);
    }
