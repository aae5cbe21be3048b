-- What a write does to a buffer, accepted or refused: "no byte before or after is touched". Stands on nothing of the file's numbers.
use Rattle.std.proofs.Common.{ℕ, ◌+◌, ◌-◌, ◌≤◌, ◌≡◌, refl, sym, ap, ◌∙◌, true, false, not, ◌||◌, List, [], ◌∷◌, ◌++◌, append_assoc, arith, eq-eqb, ne_eqb, eqb-true, le-ltb, ltb-false, eqb, ltb, length, take, drop, length-append, length-drop, length-take-le, take_at, drop_at}
use borrow.Author.Tests.{eqb-false}
use Rattle.spaces.proofs.Laws.Cases.{by_test}
use Rattle.measure.specs.Refusals.{first_of}
use Rattle.measure.proofs.Laws.Refusals.{spliced}
use Rattle.standard.specs.Gross.{deductions_pass}
use Rattle.sheet.specs.Sheet.{standing}
use Rattle.sheet.specs.Calls.{tests_to14, deductions_test, reported}
use Rattle.sheet.specs.declared.sheet.Sheet.{Sheet}
use Rattle.sheet.proofs.Laws.Calls.{passed, after_call}
use Rattle.sheet.proofs.Laws.Report.{tests_numbered, past_14}
use Rattle.dayfile.specs.Forms.{is_form, form_of}
use Rattle.dayfile.specs.Trailer.{sheet_size}
use Rattle.dayfile.specs.Writing.{sheet_bytes, loses_number, too_little_room, lost_or_no_room, write_number, written, placed, written_into}
use Rattle.dayfile.proofs.Laws.Writing.{length_sheet, within_form, number_reported}
use Rattle.dayfile_laws.specs.Writing.{Untouched, WriteAccepted, Puts, Writes}

-- ---- bytes placed in a buffer

module _ (buffer : List ℕ) (at : ℕ) (bytes : List ℕ) (room : at + length bytes ≤ length buffer) where
  front : length (take at buffer) ≡ at
  front = length-take-le at buffer (omega arith)

  front_and_bytes : length (take at buffer ++ bytes) ≡ at + length bytes
  front_and_bytes = length-append (take at buffer) bytes ∙ ap (λ (n : ℕ). n + length bytes) front

  pub placed_up_to : take (at + length bytes) (placed buffer at bytes) ≡ take at buffer ++ bytes
  placed_up_to = take_at (take at buffer ++ bytes) (drop (at + length bytes) buffer) (at + length bytes) front_and_bytes

  pub placed_untouched : Untouched at (length bytes) buffer (placed buffer at bytes)
  placed_untouched =
      let end = at + length bytes in
      let first = take at buffer in
      let rest = drop end buffer in
      record {
        as_many = length-append (first ++ bytes) rest ∙ omega (arith, front_and_bytes, length-drop end buffer);
        before = ap (take at) (append_assoc first bytes rest) ∙ take_at first (bytes ++ rest) at front;
        behind = drop_at (first ++ bytes) rest end front_and_bytes;
      }

-- what puts some bytes where there is room for them, and refused leaves the buffer as it was, touches only as many as it answers
pub only_answered_touched : (bytes : List ℕ) (number answered at : ℕ) (buffer after : List ℕ)
    → (number ≡ 0 → Puts bytes number answered at buffer after × (at + length bytes ≤ length buffer)) → ((number ≡ 0 → ⊥) → after ≡ buffer)
    → Untouched at answered buffer after
only_answered_touched bytes number answered at buffer after accepted refused =
    by_test (eqb number 0)
    (λ t. let (puts, room) = accepted (eqb-true number 0 t) in rw (puts.as_many, puts.into) (placed_untouched buffer at bytes room))
    (λ f. rw (refused (eqb-false number 0 f)) (record { as_many = refl; before = refl; behind = refl }))

-- ---- an accepted write

module _ (s : Sheet) (justified form at : ℕ) (buffer : List ℕ) where
  pub write_accepted : (written s justified form (length buffer) at).number ≡ 0 → WriteAccepted s justified form at buffer
  unfolding write_number written written_into
  write_accepted e =
      let outside = ltb 1 justified || not (is_form form) in
      let tests = tests_to14 s justified outside in
      let short = too_little_room (form_of form) s.count (length buffer) at in
      let last = lost_or_no_room form s (length buffer) at ++ deductions_test s in
      let fourteen = after_call (first_of tests) last (spliced tests last (tests_numbered s justified outside) ∙ e) in
      let reported-in = within_form s justified form fourteen.0 in
      let lost-none = passed (loses_number (form_of form) s) 20 ((short, 15) ∷ deductions_test s) fourteen.1 (λ z. omega arith) in
      let fifteen = passed short 15 (deductions_test s) lost-none.1 (λ z. omega arith) in
      let within = (passed (deductions_pass (standing s)) 21 [] fifteen.1 (λ z. omega arith)).0 in
      let fits : sheet_size (form_of form) s.count ≤ length buffer - at = ltb-false _ _ fifteen.0 in
      let zero = eq-eqb (write_number s justified form (length buffer) at) 0 e in
      record {
        reports = past_14 s justified reported-in.0 ∙ rw within;
        known = reported-in.1;
        none_lost = lost-none.0;
        room = omega (arith, fits);
        bytes_are = rw zero;
        into = rw zero;
      }

  -- it puts the bytes of its sheet
  accepted_puts : s.count ≤ length s.spaces → (written s justified form (length buffer) at).number ≡ 0
      → Writes (sheet_bytes s justified form) s justified form at buffer
  accepted_puts places e =
      let a = write_accepted e in
      record { accepted = e; as_many = a.bytes_are ∙ sym (length_sheet s justified form places); into = a.into }

  -- one whose report is given puts the bytes of its sheet, in a form that loses no number, wherever there is room
  pub puts_its_bytes : (reported s justified).number ≡ 0 → is_form form ≡ true → loses_number (form_of form) s ≡ false → s.count ≤ length s.spaces
      → at + length (sheet_bytes s justified form) ≤ length buffer → Writes (sheet_bytes s justified form) s justified form at buffer
  unfolding written
  puts_its_bytes reports known none_lost places h =
      let size = length_sheet s justified form places in
      let fits : sheet_size (form_of form) s.count ≤ length buffer - at = omega (arith, size, h) in
      let enough = le-ltb (length buffer - at) (sheet_size (form_of form) s.count) fits in
      accepted_puts places (number_reported s justified form (length buffer) at reports known ∙ rw (none_lost, enough))

-- ---- every write

-- refused, it touches nothing; accepted, only what it answers
pub others_untouched : (s : Sheet) (justified form at : ℕ) (buffer : List ℕ) → s.count ≤ length s.spaces
    → Untouched at (written s justified form (length buffer) at).bytes buffer (written_into s justified form at buffer)
unfolding written written_into
others_untouched s justified form at buffer places =
    only_answered_touched (sheet_bytes s justified form) _ _ at buffer _
    (λ z. (
      accepted_puts s justified form at buffer places z,
      omega (arith, (write_accepted s justified form at buffer z).room, length_sheet s justified form places),
    ))
    (λ refused. rw (ne_eqb _ 0 refused))
