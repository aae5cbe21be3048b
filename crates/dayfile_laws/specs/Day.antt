-- Sheets that can be written, and what reading makes of a day of them.
use Rattle.std.specs.Prelude.{ℕ, ◌+◌, ◌≤◌, ◌≡◌, true, false, List, [], ◌∷◌, length}
use Rattle.measure.specs.declared.units.Hundredths.{Hundredths}
use Rattle.measure.specs.Ranges.{includes, tonnage_lengths}
use Rattle.spaces.specs.Space.{all_recorded}
use Rattle.spaces.specs.declared.space.Space.{Space}
use Rattle.sheet.specs.Sheet.{standing, blank}
use Rattle.sheet.specs.Changes.{with_standing}
use Rattle.sheet.specs.Calls.{reported}
use Rattle.sheet.specs.declared.sheet.Sheet.{Sheet}
use Rattle.sheet_laws.proofs.Resumable.{Resumable}
use Rattle.dayfile.specs.Forms.{is_form, form_of}
use Rattle.dayfile.specs.Trailer.{sheet_size}
use Rattle.dayfile.specs.Writing.{loses_number}
use Rattle.dayfile.specs.Reading.{accepted_reading}
use Rattle.dayfile.specs.Day.{SheetWritten}
use Rattle.dayfile.specs.declared.reading.Reading.{Reading}

-- `resume` accepts the standing spaces with the tonnage length; and the sheet has its 200 places and a vessel number of 32 bits, as every one
-- in the code has
pub record ResumableSheet (s : Sheet) : Type 0 where
  pub places : length s.spaces ≡ 200
  pub vessel_in_range : s.vessel ≤ 4294967295
  pub length_in_range : includes tonnage_lengths s.length.0 ≡ true
  pub resumable : Resumable s.length (standing s)

-- a report with the justified mark is given, and the form loses no number: so it is written in that form, wherever there is room
pub record Writable (s : Sheet) (justified form : ℕ) : Type 0 where
  pub sheet : ResumableSheet s
  pub reports : (reported s justified).number ≡ 0
  pub known : is_form form ≡ true
  pub none_lost : loses_number (form_of form) s ≡ false

-- each of a day's sheets can be written with its mark in its form
abbrev pub AllWritable : List SheetWritten → Type 0
AllWritable [] = Unit
AllWritable (first ∷ later) = Writable first.sheet first.justified first.form × AllWritable later

-- ---- read

-- the sheet of some spaces with a tonnage length and a vessel number, on which no change is open yet
abbrev pub sheet_with : Hundredths → ℕ → List Space → Sheet
sheet_with L vessel xs = with_standing xs (blank true L vessel)

-- a sheet as it is read: open, with the same spaces but for their m, the same tonnage length and vessel number, and no open changes
abbrev pub as_read : Sheet → Sheet
as_read s = sheet_with s.length s.vessel (all_recorded (standing s))

-- what reading gives of each, in the order they were written, the first from `start` on and each other where the one before it ends
abbrev pub readings : ℕ → List SheetWritten → List Reading
readings start [] = []
readings start (first ∷ later) =
    accepted_reading (as_read first.sheet) first.justified start first.form ∷ readings (start + sheet_size (form_of first.form) first.sheet.count) later
