-- What the functions inside the crate ask and tell one another. No promise of a public function cites anything here.
use Rattle.std.specs.Prelude.{ℕ, ◌^◌, ◌≤◌, ◌<◌, ◌≡◌, Bool, cond, ◌||◌, List, [], ◌∷◌, ◌++◌, Option, None, Some, Result, Ok, Err, eqb, ltb, length}
use Rattle.measure.specs.Refusals.{first_of}
use Rattle.spaces.specs.Space.{empty_space}
use Rattle.spaces.specs.declared.space.Space.{Space}
use Rattle.sheet.specs.Calls.{tests_to14, figures_of}
use Rattle.sheet.specs.declared.calls.Figures.{Figures}
use Rattle.sheet.specs.declared.sheet.Sheet.{Sheet}
use Rattle.dayfile.specs.Numbers.{number_of}
use Rattle.dayfile.specs.Fields.{fitting}
use Rattle.dayfile.specs.Forms.{form_of, lost}
use Rattle.dayfile.specs.Record.{record_fields, records, space_of}
use Rattle.dayfile.specs.Trailer.{vessel_bytes, trailer_bytes, sheet_size}
use Rattle.dayfile.specs.Writing.{loses_deck, too_little_room, write_number, placed}
use Rattle.dayfile.specs.Reading.{read_number, fault_in, sheet_in, last_trailer, start_of, trailer_tests, accepted_reading, refused_reading}
use Rattle.dayfile.specs.declared.forms.Form.{Form}
use Rattle.dayfile.specs.declared.trailer.Trailer.{Trailer}
use Rattle.dayfile.specs.declared.reading.Reading.{Reading}
use Rattle.dayfile.specs.declared.reading.LastSheet.{LastSheet}
use Rattle.dayfile.specs.declared.refusals.Refusal.{Refusal}
use Rattle.dayfile.specs.declared.moving.Moved.{Moved}
use Rattle.dayfile.specs.declared.writing.Written.{Written}

-- the number of some bytes, which fits its width
pub record Number (width : ℕ) (bytes : List ℕ) (r : ℕ) : Type 0 where
  pub is : r ≡ number_of bytes
  pub fits : r < 256 ^ width

-- every field has at most eight bytes
abbrev pub Narrow : List ℕ → Type 0
Narrow [] = Unit
Narrow (w ∷ ws) = (w ≤ 8) × Narrow ws

-- the most bytes that a record, and what stands behind the records, can have, whatever bytes say their widths: 16 + 255 + 255, and 255 + 28
abbrev pub most_record : ℕ
most_record = 526

abbrev pub most_end : ℕ
most_end = 283

-- a record as it is handed to the sheet: an empty one, which entry refuses, where a number is outside its range
unfoldable pub read_as : Form → List ℕ → Space
read_as f numbers = cond (fitting (record_fields f) numbers) (space_of numbers) empty_space

abbrev pub each_read_as : Form → List (List ℕ) → List Space
each_read_as f [] = []
each_read_as f (numbers ∷ rest) = read_as f numbers ∷ each_read_as f rest

-- ---- what there is, or none; accepted, or refused with a number

abbrev pub where_true : {T : Type 0} → Bool → T → Option T
where_true test x = cond test (Some x) None

-- of a number that is 0 where there is none
abbrev pub unless_0 : {T : Type 0} → ℕ → T → Option T
unless_0 n x = cond (eqb n 0) None (Some x)

-- "The position is 0 for every number but 17."
abbrev pub refusal : ℕ → Refusal
refusal n = record { number = n; position = 0 }

abbrev pub refused_or : {T : Type 0} → ℕ → T → Result T Refusal
refused_or n x = cond (eqb n 0) (Ok x) (Err (refusal n))

-- ---- reading

-- the last sheet, as its trailer tells of it
abbrev pub read_by : Sheet → Trailer → ℕ → LastSheet
read_by s t start = record { sheet = s; justified = t.justified; start = start; form = t.form }

-- what reading answers once the records are accepted
unfoldable pub judged_reading : Sheet → Trailer → ℕ → Result LastSheet Refusal
judged_reading s t start = refused_or (first_of (trailer_tests s t)) (read_by s t start)

-- what reading answers, before it is made a record (Reading)
unfoldable pub last_read : List ℕ → Result LastSheet Refusal
last_read file =
    let n = read_number file in
    cond (eqb n 0)
    (Ok (read_by (sheet_in file) (last_trailer file) (start_of file)))
    (Err (record { number = n; position = cond (eqb n 17) (fault_in file) 0 }))

-- and the record made of it
abbrev pub accepted_from : LastSheet → Reading
accepted_from r = accepted_reading r.sheet r.justified r.start r.form

abbrev pub reading_from : Result LastSheet Refusal → Reading
reading_from (Ok r) = accepted_from r
reading_from (Err e) = refused_reading e.number e.position

-- ---- writing

-- 1, 2, 13 or 14 of a write, by the number of its report and whether there is the form; 21 of a report comes later in a write
abbrev pub form_refusal : (report : ℕ) (known : Bool) → ℕ
form_refusal report known = cond (eqb report 1) 1 (cond known (cond (eqb report 21) 0 report) 2)

-- the figures of a report of the sheet, which none of 1, 2, 13 and 14 refuses
pub record Reports (s : Sheet) (justified : ℕ) (r : Figures) : Type 0 where
  pub are : r ≡ figures_of s justified
  pub past_14 : first_of (tests_to14 s justified (ltb 1 justified)) ≡ 0

-- 20, 15, 21 or 0 of a trailer, a vessel number and the spaces that the trailer counts, by whether deductions pass gross
abbrev pub store_number : Trailer → Bool → ℕ → List Space → ℕ → ℕ → ℕ
store_number t pass vessel xs size at =
    let f = form_of t.form in
    first_of ((lost f.vessel vessel || loses_deck f xs, 20) ∷ (too_little_room f t.count size at, 15) ∷ (pass, 21) ∷ [])

abbrev pub stored : Trailer → Bool → ℕ → List Space → ℕ → ℕ → Result ℕ Refusal
stored t pass vessel xs size at = refused_or (store_number t pass vessel xs size at) (sheet_size (form_of t.form) t.count)

-- the whole buffer afterwards
abbrev pub stored_into : Trailer → Bool → ℕ → List Space → ℕ → List ℕ → List ℕ
stored_into t pass vessel xs at buffer =
    let f = form_of t.form in
    cond (eqb (store_number t pass vessel xs (length buffer) at) 0) (placed buffer at (records f xs ++ (vessel_bytes f vessel ++ trailer_bytes t))) buffer

-- what a write answers beside the sheet, and what is made of it and of a move
unfoldable pub written_as : Sheet → ℕ → ℕ → ℕ → ℕ → Result ℕ Refusal
written_as s justified form size at = refused_or (write_number s justified form size at) (sheet_size (form_of form) s.count)

abbrev pub handed_back : Result ℕ Refusal → Sheet → Written
handed_back (Ok bytes) s = record { number = 0; bytes = bytes; sheet = s }
handed_back (Err e) s = record { number = e.number; bytes = 0; sheet = s }

abbrev pub moved_as : Result ℕ Refusal → Moved
moved_as (Ok bytes) = record { number = 0; bytes = bytes; position = 0 }
moved_as (Err e) = record { number = e.number; bytes = 0; position = e.position }
