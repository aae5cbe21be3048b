-- "A move reads the last sheet of one buffer and writes it at a named place in another, answering as a write does, with 17's position."
-- (T-05 of document 02)
use Rattle.std.specs.Prelude.{ℕ, cond, not, List, ◌∷◌, eqb, length}
use Rattle.measure.specs.Refusals.{first_of}
use Rattle.dayfile.specs.Forms.{is_form, form_of}
use Rattle.dayfile.specs.Trailer.{sheet_size}
use Rattle.dayfile.specs.Writing.{sheet_bytes, lost_or_no_room, placed}
use Rattle.dayfile.specs.Reading.{read_of}
use Rattle.dayfile.specs.declared.moving.Moved.{Moved}

-- the number of a move of the last sheet of a file, in a form, into a buffer of so many bytes from a place on: "a move gives 2, then those of
-- reading, then 20, then 15"
unfoldable pub move_number : List ℕ → ℕ → ℕ → ℕ → ℕ
move_number file form size at =
    let r = read_of file in
    first_of
    ((not (is_form form), 2)
    ∷ (not (eqb r.number 0), r.number)
    ∷ lost_or_no_room form r.sheet size at)

-- the bytes written, 0 where refused; the position is 0 for every number but 17
abbrev pub moved_with : ℕ → List ℕ → ℕ → Moved
moved_with number file form =
    record {
      number = number;
      bytes = cond (eqb number 0) (sheet_size (form_of form) (read_of file).sheet.count) 0;
      position = cond (eqb number 17) (read_of file).position 0;
    }

unfoldable pub moved : List ℕ → ℕ → ℕ → ℕ → Moved
moved file form size at = moved_with (move_number file form size at) file form

-- the whole of the other buffer afterwards: the sheet with its mark at the named place, or as it was
unfoldable pub moved_into : List ℕ → ℕ → ℕ → List ℕ → List ℕ
moved_into file form at buffer =
    let r = read_of file in
    cond (eqb (move_number file form (length buffer) at) 0) (placed buffer at (sheet_bytes r.sheet r.justified form)) buffer
