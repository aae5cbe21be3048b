-- What a reading gives of a sheet that was written, and of a sheet behind other bytes.
use Rattle.std.specs.Prelude.{ℕ, ◌≡◌, true, cond, eqb}
use Rattle.spaces.specs.Space.{all_recorded}
use Rattle.sheet.specs.Sheet.{standing, usable}
use Rattle.sheet.specs.Calls.{counted}
use Rattle.sheet.specs.declared.sheet.Sheet.{Sheet}
use Rattle.dayfile.specs.Record.{SameSpaces}
use Rattle.dayfile.specs.declared.reading.Reading.{Reading}

-- a reading has what was written with a mark, in a form, from a place on
pub record ReadBack (s : Sheet) (justified form start : ℕ) (r : Reading) : Type 0 where
  pub accepted : r.number ≡ 0
  -- the same spaces, in the same order: each standing space, its m gone
  pub same_spaces : SameSpaces (standing s) (standing r.sheet)
  pub without_m : standing r.sheet ≡ all_recorded (standing s)
  pub same_length : r.sheet.length ≡ s.length
  pub same_vessel : r.sheet.vessel ≡ s.vessel
  pub same_mark : r.justified ≡ justified
  -- "The sheet read is open, with no open changes."
  pub is_open : usable r.sheet ≡ true
  pub none_undoable : (counted r.sheet).undoable ≡ 0
  pub none_redoable : (counted r.sheet).redoable ≡ 0
  -- "where the sheet starts"
  pub starts : r.start ≡ start
  -- "Readers take either form and answer it"
  pub same_form : r.form ≡ form

-- "bytes before it don't matter": the same number, position, sheet, mark and form, and where accepted another start
abbrev pub starting_at : ℕ → Reading → Reading
starting_at start r =
    record {
      number = r.number;
      position = r.position;
      sheet = r.sheet;
      justified = r.justified;
      start = cond (eqb r.number 0) start 0;
      form = r.form;
    }
