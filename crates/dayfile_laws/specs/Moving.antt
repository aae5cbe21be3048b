-- What a move does: "Moving a form 1 sheet up gives zeros, and up and back gives the bytes again."
use Rattle.std.specs.Prelude.{ℕ, ◌+◌, ◌≤◌, ◌≡◌, true, false, List, length, take}
use Rattle.dayfile.specs.Forms.{is_form, form_of}
use Rattle.dayfile.specs.Trailer.{sheet_size}
use Rattle.dayfile.specs.Writing.{sheet_bytes, loses_number, placed}
use Rattle.dayfile.specs.Reading.{read_of}
use Rattle.dayfile.specs.Moving.{moved, moved_into}
use Rattle.dayfile_laws.specs.Writing.{Puts}

-- an accepted move: the file is read, the form loses no number, there is room, the position is 0, and the bytes of the sheet that was read
-- stand at the named place
pub record MoveAccepted (file : List ℕ) (form at : ℕ) (buffer : List ℕ) : Type 0 where
  pub is_read : (read_of file).number ≡ 0
  pub known : is_form form ≡ true
  pub none_lost : loses_number (form_of form) (read_of file).sheet ≡ false
  pub room : at + sheet_size (form_of form) (read_of file).sheet.count ≤ length buffer
  pub bytes_are : (moved file form (length buffer) at).bytes ≡ sheet_size (form_of form) (read_of file).sheet.count
  pub position_0 : (moved file form (length buffer) at).position ≡ 0
  pub into : moved_into file form at buffer ≡ placed buffer at (sheet_bytes (read_of file).sheet (read_of file).justified form)

-- a move of the last sheet of a file puts exactly these bytes at a place of another buffer
abbrev pub Moves : List ℕ → List ℕ → ℕ → ℕ → List ℕ → Type 0
Moves bytes file form at buffer =
    let m = moved file form (length buffer) at in
    Puts bytes m.number m.bytes at buffer (moved_into file form at buffer)

-- the other buffer up to the end of what was moved into it: a file that ends in that sheet
abbrev pub file_moved : List ℕ → ℕ → ℕ → List ℕ → List ℕ
file_moved file form at buffer = take (at + (moved file form (length buffer) at).bytes) (moved_into file form at buffer)
