-- Moves: as a write of the sheet that was read; a copy in the form it has; there and back in any forms. Stands on ReadWritten, WrittenRead,
-- Lost, Writing.
use Rattle.std.proofs.Common.{ℕ, ◌+◌, ◌≤◌, ◌≡◌, refl, sym, ap, ap₂, ◌∙◌, true, false, not, List, ◌∷◌, arith, ne_eqb, eqb, length, take, drop}
use borrow.Author.Tests.{not-false}
use Rattle.sheet.specs.declared.sheet.Sheet.{Sheet}
use Rattle.sheet.proofs.Laws.Calls.{passed, after_call}
use Rattle.dayfile.specs.Numbers.{Bytes}
use Rattle.dayfile.specs.Forms.{is_form, form_of}
use Rattle.dayfile.specs.Writing.{sheet_bytes, loses_number, lost_or_no_room, written, written_into}
use Rattle.dayfile.specs.Reading.{accepted_reading, read_of}
use Rattle.dayfile.specs.Moving.{move_number, moved, moved_into}
use Rattle.dayfile.specs.declared.reading.Reading.{Reading}
use Rattle.dayfile.proofs.Laws.Writing.{length_sheet}
use Rattle.dayfile.proofs.Laws.Moving.{as_written}
use Rattle.dayfile_laws.specs.Writing.{Untouched, Writes, Zeros}
use Rattle.dayfile_laws.specs.Moving.{MoveAccepted, Moves, file_moved}
use Rattle.dayfile_laws.specs.Day.{Writable, sheet_with, as_read}
use Rattle.dayfile_laws.proofs.Lost.{kept_in_form_1, kept_in_form_2}
use Rattle.dayfile_laws.proofs.Writing.{only_answered_touched, write_accepted, puts_its_bytes}
use Rattle.dayfile_laws.proofs.WrittenRead.{has_places, placed_then_read}
use Rattle.dayfile_laws.proofs.ReadWritten.{read_is_writable, written_back, read_again, read_without_m}

-- ---- an accepted move

module _ (file : List ℕ) (form at : ℕ) (buffer : List ℕ) where
  -- past 2 and reading's numbers it is accepted as a write of the sheet that was read
  pub move_accepted : (moved file form (length buffer) at).number ≡ 0 → MoveAccepted file form at buffer
  unfolding move_number moved moved_into written
  move_accepted e =
      let r = read_of file in
      let s = r.sheet in
      let end = lost_or_no_room form s (length buffer) at in
      let two = passed (not (is_form form)) 2 ((not (eqb r.number 0), r.number) ∷ end) e (λ z. omega arith) in
      let known = not-false (is_form form) two.0 in
      let read = (after_call r.number end two.1).0 in
      let w = write_accepted s r.justified form at buffer (as_written file form (length buffer) at read known ∙ e) in
      record { is_read = read; known = known; none_lost = w.none_lost; room = w.room; bytes_are = rw e; position_0 = rw e; into = rw e }

  -- where a write of the sheet that was read puts bytes, a move puts the same
  pub moves_as_written : (bytes : List ℕ) → (read_of file).number ≡ 0 → is_form form ≡ true
      → Writes bytes (read_of file).sheet (read_of file).justified form at buffer → Moves bytes file form at buffer
  unfolding moved moved_into written written_into
  moves_as_written bytes read known puts =
      let number = as_written file form (length buffer) at read known in
      record {
        accepted = sym number ∙ puts.accepted;
        as_many = rw number at puts.as_many;
        into = rw number at puts.into;
      }

  -- an accepted one puts the bytes of the sheet that was read
  accepted_moves : (read_of file).sheet.count ≤ length (read_of file).sheet.spaces → (moved file form (length buffer) at).number ≡ 0
      → Moves (sheet_bytes (read_of file).sheet (read_of file).justified form) file form at buffer
  accepted_moves places e =
      let a = move_accepted e in
      record { accepted = e; as_many = a.bytes_are ∙ sym (length_sheet _ _ form places); into = a.into }

-- ---- every move

-- a sheet that was read has its places
read_places : (file : List ℕ) → Bytes file → (read_of file).number ≡ 0 → (read_of file).sheet.count ≤ length (read_of file).sheet.spaces
read_places file bytes read = has_places (read_of file).sheet (read_of file).justified (read_of file).form (read_is_writable file read bytes)

-- refused, it touches nothing of the other buffer; accepted, only what it answers
pub others_untouched : (file : List ℕ) → Bytes file → (form at : ℕ) (buffer : List ℕ)
    → Untouched at (moved file form (length buffer) at).bytes buffer (moved_into file form at buffer)
unfolding moved moved_into
others_untouched file bytes form at buffer =
    let s = (read_of file).sheet in
    let mark = (read_of file).justified in
    only_answered_touched (sheet_bytes s mark form) _ _ at buffer _
    (λ z.
    let a = move_accepted file form at buffer z in
    let places = read_places file bytes a.is_read in
    (accepted_moves file form at buffer places z, omega (arith, a.room, length_sheet s mark form places)))
    (λ refused. rw (ne_eqb _ 0 refused))

-- ---- there and back

module _ (file : List ℕ) (bytes : Bytes file) (read : (read_of file).number ≡ 0) where
  -- "a move in the form it has is a copy of the last sheet's bytes"
  pub moved_is_copy : (at : ℕ) (buffer : List ℕ) → at + length (drop (read_of file).start file) ≤ length buffer
      → Moves (drop (read_of file).start file) file (read_of file).form at buffer
  moved_is_copy at buffer room =
      moves_as_written file (read_of file).form at buffer _ read (read_is_writable file read bytes).known (written_back file read bytes at buffer room)

  -- what was read is read again as it is
  read_as_it_is : as_read (read_of file).sheet ≡ (read_of file).sheet
  read_as_it_is =
      let s = (read_of file).sheet in
      ap (sheet_with s.length s.vessel) (read_without_m file read) ∙ read_again file read

  -- it can be written in every form that loses no number of it
  writable_in : (form : ℕ) → is_form form ≡ true → loses_number (form_of form) (read_of file).sheet ≡ false
      → Writable (read_of file).sheet (read_of file).justified form
  writable_in form known none_lost =
      let w = read_is_writable file read bytes in
      record { sheet = w.sheet; reports = w.reports; known = known; none_lost = none_lost }

  -- a move leaves a file that ends in the same sheet, with its mark, in the form named
  pub moved_then_read : (form at : ℕ) (buffer : List ℕ) → (moved file form (length buffer) at).number ≡ 0
      → read_of (file_moved file form at buffer) ≡ accepted_reading (read_of file).sheet (read_of file).justified at form
  moved_then_read form at buffer e =
      let s = (read_of file).sheet in
      let mark = (read_of file).justified in
      let a = move_accepted file form at buffer e in
      ap₂ (λ (n : ℕ) (all : List ℕ). read_of (take (at + n) all)) a.bytes_are a.into
      ∙ placed_then_read s mark form at buffer (writable_in form a.known a.none_lost) a.room
      ∙ ap (λ (t : Sheet). accepted_reading t mark at form) read_as_it_is

  -- "up and back gives the bytes again": from any form into any other and back, wherever there is room
  pub there_and_back : (form at : ℕ) (buffer : List ℕ) → (moved file form (length buffer) at).number ≡ 0 → (back_at : ℕ) (other : List ℕ)
      → back_at + length (drop (read_of file).start file) ≤ length other
      → Moves (drop (read_of file).start file) (file_moved file form at buffer) (read_of file).form back_at other
  there_and_back form at buffer e back_at other room =
      let same = moved_then_read form at buffer e in
      let there = file_moved file form at buffer in
      let puts = written_back file read bytes back_at other room in
      moves_as_written there (read_of file).form back_at other _ (ap (λ (r : Reading). r.number) same) (read_is_writable file read bytes).known
      (rw same puts)

  -- "Moving a form 1 sheet up": form 2 loses nothing, so there is nothing to refuse it but room
  pub moves_up : (at : ℕ) (buffer : List ℕ) → at + length (sheet_bytes (read_of file).sheet (read_of file).justified 2) ≤ length buffer
      → Moves (sheet_bytes (read_of file).sheet (read_of file).justified 2) file 2 at buffer
  moves_up at buffer room =
      let s = (read_of file).sheet in
      let mark = (read_of file).justified in
      let w = read_is_writable file read bytes in
      moves_as_written file 2 at buffer _ read refl
      (puts_its_bytes s mark 2 at buffer w.reports refl (kept_in_form_2 s) (read_places file bytes read) room)

  -- "gives zeros": what was read in form 1 has no deck and no vessel number
  pub zeros_in_form_1 : (read_of file).form ≡ 1 → Zeros (read_of file).sheet
  zeros_in_form_1 one = (kept_in_form_1 (read_of file).sheet).0 (rw one at (read_is_writable file read bytes).none_lost)
