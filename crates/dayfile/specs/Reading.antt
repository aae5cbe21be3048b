-- "Reading judges the last sheet only; bytes before it don't matter."
use Rattle.std.specs.Prelude.{ℕ, ◌+◌, ◌-◌, ◌≡◌, Bool, true, false, cond, not, ◌||◌, List, [], ◌∷◌, ◌++◌, eqb, ltb, length, take, drop, get_or}
use Rattle.measure.specs.declared.units.Hundredths.{Hundredths}
use Rattle.measure.specs.Refusals.{first_of}
use Rattle.standard.specs.Gross.{gross, net}
use Rattle.spaces.specs.declared.space.Space.{Space}
use Rattle.sheet.specs.Sheet.{standing, blank, not_open}
use Rattle.sheet.specs.Changes.{with_standing}
use Rattle.sheet.specs.Calls.{reported}
use Rattle.standard.specs.Records.{record_number}
use Rattle.sheet.specs.declared.sheet.Sheet.{Sheet}
use Rattle.dayfile.specs.Fields.{fitting}
use Rattle.dayfile.specs.Forms.{form_of}
use Rattle.dayfile.specs.Record.{record_fields, records_in, space_of, spaces_of}
use Rattle.dayfile.specs.Trailer.{trailer_size, sheet_size, trailer_numbers, trailer_right, trailer_of, vessel_in}
use Rattle.dayfile.specs.declared.forms.Form.{Form}
use Rattle.dayfile.specs.declared.trailer.Trailer.{Trailer}
use Rattle.dayfile.specs.declared.reading.Reading.{Reading}

-- ---- 16

-- the numbers of the trailer at the end of a file
abbrev pub last_numbers : List ℕ → List ℕ
last_numbers file = trailer_numbers (drop (length file - trailer_size) file)

-- 16: "file shorter than 28 bytes or than its distance; count over 200; distance, zero byte, mark or tonnage length wrong"
unfoldable pub no_sheet : List ℕ → Bool
no_sheet file =
    ltb (length file) trailer_size
    || not (trailer_right (last_numbers file))
    || ltb (length file) (get_or (last_numbers file) 0 0)

abbrev pub last_trailer : List ℕ → Trailer
last_trailer file = trailer_of (last_numbers file)

-- "Readers take either form": the one that the trailer tells
abbrev pub last_form : List ℕ → Form
last_form file = form_of (last_trailer file).form

-- where the last sheet starts
abbrev pub start_of : List ℕ → ℕ
start_of file = length file - sheet_size (last_form file) (last_trailer file).count

-- ---- 17

-- "a record with a nonzero zero field, a wrong kind, a number outside its range, a U, B, S or H with an enclosing id, or one that
-- entry would refuse", after the spaces `before`, where f is the form and L the tonnage length
abbrev pub faulty : Form → Hundredths → List Space → List ℕ → Bool
faulty f L before numbers = not (fitting (record_fields f) numbers) || not (eqb (record_number L before (space_of numbers)) 0)

-- "the position, from 1, of the first such record"; 0 where there is none
abbrev pub first_faulty : Form → Hundredths → List Space → List (List ℕ) → ℕ
first_faulty f L before [] = 0
first_faulty f L before (numbers ∷ rest) =
    cond (faulty f L before numbers) (length before + 1) (first_faulty f L (before ++ (space_of numbers ∷ [])) rest)

-- the records of the last sheet
abbrev pub last_records : List ℕ → List (List ℕ)
last_records file = records_in (last_form file) (last_trailer file).count (drop (start_of file) file)

unfoldable pub fault_in : List ℕ → ℕ
fault_in file = first_faulty (last_form file) (last_trailer file).tonnage_length [] (last_records file)

-- ---- 13, 14, 21 and 18

-- the vessel number of the last sheet
abbrev pub last_vessel : List ℕ → ℕ
last_vessel file = vessel_in (last_form file) file

-- "The sheet read is open, with no open changes."
unfoldable pub sheet_in : List ℕ → Sheet
sheet_in file =
    with_standing (spaces_of (last_records file)) (blank true (last_trailer file).tonnage_length (last_vessel file))

abbrev pub trailer_tests : Sheet → Trailer → List (Bool × ℕ)
trailer_tests s t =
    -- 13, 14 or 21, as a report with the trailer's mark is refused: 21 "in reading .. stands after 14" (T-06 of document 02)
    (not (eqb (reported s t.justified).number 0), (reported s t.justified).number)
    -- 18: gross or net isn't what the records give
    ∷ (not (eqb (gross (standing s)) t.gross) || not (eqb (net (standing s)) t.net), 18)
    ∷ []

-- ---- what reading answers

-- "in reading: there 16, 17, 13, 14, 18 in that order", and 21 after 14
unfoldable pub read_number : List ℕ → ℕ
read_number file =
    first_of
    ((no_sheet file, 16)
    ∷ (not (eqb (fault_in file) 0), 17)
    ∷ trailer_tests (sheet_in file) (last_trailer file))

-- "A refused open or read hands back a sheet not open, mark 0, start 0", and form 0. "The position is 0 for every number but 17."
unfoldable pub refused_reading : ℕ → ℕ → Reading
refused_reading number position =
    record { number = number; position = position; sheet = not_open; justified = 0; start = 0; form = 0 }

-- "It answers the sheet, the justified mark and where the sheet starts"; "Readers take either form and answer it"
abbrev pub accepted_reading : Sheet → ℕ → ℕ → ℕ → Reading
accepted_reading s justified start form =
    record { number = 0; position = 0; sheet = s; justified = justified; start = start; form = form }

unfoldable pub read_of : List ℕ → Reading
read_of file =
    cond (eqb (read_number file) 0)
    (accepted_reading (sheet_in file) (last_trailer file).justified (start_of file) (last_trailer file).form)
    (refused_reading (read_number file) (cond (eqb (read_number file) 17) (fault_in file) 0))

-- "the bytes ahead of that start are the earlier sheets, read the same way"
abbrev pub read_before : List ℕ → ℕ → Reading
read_before file start = read_of (take start file)

-- An accepted reading as facts: 16, 17, then 13, 14 or 21, then 18, none of which applies, and what is answered (proofs/Laws/Reading).
pub record ReadingAccepted (file : List ℕ) : Type 0 where
  pub ends_in_sheet : no_sheet file ≡ false
  pub no_fault : fault_in file ≡ 0
  pub reports : (reported (sheet_in file) (last_trailer file).justified).number ≡ 0
  pub gross_is : gross (standing (sheet_in file)) ≡ (last_trailer file).gross
  pub net_is : net (standing (sheet_in file)) ≡ (last_trailer file).net
  pub reading_is : read_of file ≡ accepted_reading (sheet_in file) (last_trailer file).justified (start_of file) (last_trailer file).form
