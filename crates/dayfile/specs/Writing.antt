-- "Writing starts at a place in the buffer that the caller names and answers the bytes written; no byte before or after is touched."
use Rattle.std.specs.Prelude.{ℕ, ◌+◌, ◌-◌, Bool, false, cond, not, ◌||◌, List, [], ◌∷◌, ◌++◌, eqb, ltb, length, take, drop}
use Rattle.measure.specs.Refusals.{first_of}
use Rattle.standard.specs.Gross.{gross, net}
use Rattle.sheet.specs.Sheet.{standing}
use Rattle.sheet.specs.Calls.{tests_to14, deductions_test}
use Rattle.spaces.specs.declared.space.Space.{Space}
use Rattle.sheet.specs.declared.sheet.Sheet.{Sheet}
use Rattle.dayfile.specs.Forms.{is_form, form_of, lost}
use Rattle.dayfile.specs.Record.{records}
use Rattle.dayfile.specs.Trailer.{vessel_bytes, trailer_bytes, sheet_size}
use Rattle.dayfile.specs.declared.forms.Form.{Form}
use Rattle.dayfile.specs.declared.trailer.Trailer.{Trailer}
use Rattle.dayfile.specs.declared.writing.Written.{Written}

-- "a write names the form it wants": everywhere `form` is its number

-- the trailer of a sheet with its justified mark
abbrev pub trailer_for : Sheet → ℕ → ℕ → Trailer
trailer_for s justified form =
    record {
      count = s.count;
      justified = justified;
      form = form;
      tonnage_length = s.length;
      gross = gross (standing s);
      net = net (standing s);
    }

-- "A sheet is one .. record per standing space in order of entry, then a 28-byte trailer that points back"; and between them the vessel
-- number, where the form has it
unfoldable pub sheet_bytes : Sheet → ℕ → ℕ → List ℕ
sheet_bytes s justified form =
    let f = form_of form in
    records f (standing s) ++ (vessel_bytes f s.vessel ++ trailer_bytes (trailer_for s justified form))

-- ---- refused or not

-- 20: "where a move or write in form 1 would lose a number", the vessel number or the deck of a standing space
abbrev pub loses_deck : Form → List Space → Bool
loses_deck f [] = false
loses_deck f (x ∷ xs) = lost f.deck x.deck || loses_deck f xs

unfoldable pub loses_number : Form → Sheet → Bool
loses_number f s = lost f.vessel s.vessel || loses_deck f (standing s)

-- 15: buffer has too little room from the named place
abbrev pub too_little_room : Form → ℕ → ℕ → ℕ → Bool
too_little_room f count size at = ltb (size - at) (sheet_size f count)

-- 20 and 15 of a write and of a move, into a buffer of so many bytes from a place on: "20 .. in a write just before 15", "then 20, then 15"
-- in a move
abbrev pub lost_or_no_room : ℕ → Sheet → ℕ → ℕ → List (Bool × ℕ)
lost_or_no_room form s size at = (loses_number (form_of form) s, 20) ∷ (too_little_room (form_of form) s.count size at, 15) ∷ []

-- the number of a write
unfoldable pub write_number : Sheet → ℕ → ℕ → ℕ → ℕ → ℕ
write_number s justified form size at =
    first_of
    -- 1, 2, 13 and 14 as of a report, and 2 for "a form that is neither"
    (tests_to14 s justified (ltb 1 justified || not (is_form form))
    -- then 20 and 15; and 21, "after 15" (T-06 of document 02)
    ++ lost_or_no_room form s size at
    ++ deductions_test s)

-- "a refused write 0 bytes and an untouched buffer"; no write changes the sheet
abbrev pub written_with : ℕ → Sheet → ℕ → Written
written_with number s form =
    record { number = number; bytes = cond (eqb number 0) (sheet_size (form_of form) s.count) 0; sheet = s }

unfoldable pub written : Sheet → ℕ → ℕ → ℕ → ℕ → Written
written s justified form size at = written_with (write_number s justified form size at) s form

-- bytes over a buffer's own from a place on: none before or after them is touched
abbrev pub placed : List ℕ → ℕ → List ℕ → List ℕ
placed buffer at bytes = take at buffer ++ bytes ++ drop (at + length bytes) buffer

-- the whole buffer afterwards
unfoldable pub written_into : Sheet → ℕ → ℕ → ℕ → List ℕ → List ℕ
written_into s justified form at buffer =
    cond (eqb (write_number s justified form (length buffer) at) 0) (placed buffer at (sheet_bytes s justified form)) buffer
