-- Spaces that `resume` accepts, and the sheet that it makes of them.
use Rattle.std.specs.Prelude.{ℕ, ◌≡◌, true, false, List}
use Rattle.measure.specs.declared.units.Hundredths.{Hundredths}
use Rattle.measure.specs.Ranges.{includes, tonnage_lengths}
use Rattle.standard.specs.Records.{misrecorded}
use Rattle.standard.specs.Valid.{Valid}
use Rattle.spaces.specs.Space.{all_recorded}
use Rattle.spaces.specs.declared.space.Space.{Space}
use Rattle.spaces_laws.specs.Above.{◌∈◌}
use Rattle.sheet.specs.Sheet.{blank}
use Rattle.sheet.specs.Changes.{with_standing}
use Rattle.sheet.specs.declared.sheet.Sheet.{Sheet}

-- a valid sheet, where L is the tonnage length, and no record that no entry could have made
pub record Resumable (L : Hundredths) (xs : List Space) : Type 0 where
  pub valid : Valid L xs
  pub well_recorded : (y : Space) → y ∈ xs → misrecorded y ≡ false

-- a sheet of recorded spaces with a tonnage length and a vessel number, on which no change is open yet
pub record OfRecords (L : Hundredths) (vessel : ℕ) (records : List Space) (s : Sheet) : Type 0 where
  pub length_in_range : includes tonnage_lengths L.0 ≡ true
  pub resumable : Resumable L records
  -- "0 for every space read from a file or resumed"
  pub without_m : all_recorded records ≡ records
  pub sheet_is : s ≡ with_standing records (blank true L vessel)
