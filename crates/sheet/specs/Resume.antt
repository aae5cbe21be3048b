-- A sheet of recorded spaces: "It checks records in file order as entries with the recorded tonnage and length" ("The file"), and
-- "The sheet read is open, with no open changes."
use Rattle.std.specs.Prelude.{ℕ, true, cond, List, [], eqb}
use Rattle.measure.specs.Ranges.{includes, tonnage_lengths}
use Rattle.measure.specs.declared.units.Hundredths.{Hundredths}
use Rattle.standard.specs.Records.{first_refused}
use Rattle.spaces.specs.Space.{all_recorded}
use Rattle.spaces.specs.declared.space.Space.{Space}
use Rattle.sheet.specs.Sheet.{blank, not_open}
use Rattle.sheet.specs.Changes.{with_standing}
use Rattle.sheet.specs.declared.resume.Resumed.{Resumed}

-- the sheet of these records with its vessel number: "0 for every space read from a file or resumed" is its m (T-01)
abbrev pub sheet_of : Hundredths → ℕ → List Space → Resumed
sheet_of L vessel records = record { number = 0; position = 0; sheet = with_standing (all_recorded records) (blank true L vessel) }

abbrev pub refused : ℕ → ℕ → Resumed
refused number position = record { number = number; position = position; sheet = not_open }

unfoldable pub resumed : Hundredths → ℕ → List Space → Resumed
resumed L vessel records =
    let r = first_refused L [] records in
    cond (includes tonnage_lengths L.0)
    (cond (eqb r.number 0) (sheet_of L vessel records) (refused r.number r.position))
    (refused 2 0)
