-- The sheets that calls can reach: "Start from a sheet just opened or just read. After any run of entries, marks, withdrawals, undos,
-- redos and refused calls", with reports, writes and the asking of counts among them.
use Rattle.std.specs.Prelude.{ℕ, ◌≤◌, ◌≡◌, List, [], ◌∷◌}
use Rattle.measure.specs.declared.units.Hundredths.{Hundredths}
use Rattle.spaces.specs.Space.{all_recorded}
use Rattle.spaces.specs.declared.space.Space.{Space}
use Rattle.sheet.specs.Sheet.{standing}
use Rattle.sheet.specs.Calls.{opened_with}
use Rattle.sheet.specs.Resume.{resumed}
use Rattle.sheet.specs.declared.sheet.Sheet.{Sheet}
use Rattle.sheet_laws.specs.Run.{Call, answer}
use Rattle.dayfile.specs.Numbers.{Bytes}
use Rattle.dayfile.specs.Writing.{written}
use Rattle.dayfile.specs.Reading.{read_of}

-- a sheet just opened, just read from any bytes, or just made of recorded spaces, their m gone: L is its tonnage length, and the spaces
-- `start` stand. A vessel number is one of 32 bits, "0 to 4,294,967,295"
pub data Begun : Hundredths → List Space → Sheet → Type 0 where
  opened : (L : Hundredths) (vessel : ℕ) → vessel ≤ 4294967295 → (opened_with L vessel).number ≡ 0 → Begun L [] (opened_with L vessel).sheet
  read : (file : List ℕ) → Bytes file → (read_of file).number ≡ 0 → Begun (read_of file).sheet.length (standing (read_of file).sheet) (read_of file).sheet
  of_records : (L : Hundredths) (vessel : ℕ) (records : List Space) → vessel ≤ 4294967295 → (resumed L vessel records).number ≡ 0
      → Begun L (all_recorded records) (resumed L vessel records).sheet

-- a call of the day: one on the sheet alone, or a write with a justified mark in a form into a buffer of some size from a place on
pub data DayCall : Type 0 where
  call : Call → DayCall
  write : (justified form size at : ℕ) → DayCall

-- "every other call on a sheet takes it and hands back the sheet after it"
abbrev pub handed_back : DayCall → Sheet → Sheet
handed_back (call c) s = (answer c s).sheet
handed_back (write justified form size at) s = (written s justified form size at).sheet

-- and answers a number
abbrev pub number_of : DayCall → Sheet → ℕ
number_of (call c) s = (answer c s).number
number_of (write justified form size at) s = (written s justified form size at).number

abbrev pub after_day : List DayCall → Sheet → Sheet
after_day [] s = s
after_day (c ∷ calls) s = after_day calls (handed_back c s)

-- "A report, a write and a refused call change nothing": the log and the counts of a run are those of its other calls
abbrev pub without_writes : List DayCall → List Call
without_writes [] = []
without_writes (call c ∷ calls) = c ∷ without_writes calls
without_writes (write justified form size at ∷ calls) = without_writes calls

-- a sheet that such calls hand back
pub data Reached : Sheet → Type 0 where
  reached : {L : Hundredths} {start : List Space} {first : Sheet} → Begun L start first → (calls : List DayCall) → Reached (after_day calls first)
