-- What a move answers, and what it leaves in the other buffer: as a write of the sheet that was read does.
use Rattle.std.proofs.Common.{ℕ, ◌≡◌, refl, sym, ap, ap₂, ◌∙◌, Bool, true, false, cond, List, ne_eqb, eqb-true, eqb, length}
use Rattle.std.specs.Prelude.{Result}
use Rattle.spaces.proofs.Laws.Cases.{by_test}
use Rattle.dayfile.specs.Forms.{is_form, form_of}
use Rattle.dayfile.specs.Trailer.{sheet_size}
use Rattle.dayfile.specs.Writing.{sheet_bytes, write_number, placed, written_into}
use Rattle.dayfile.specs.Reading.{read_of}
use Rattle.dayfile.specs.Moving.{move_number, moved, moved_into}
use Rattle.dayfile.specs.declared.reading.Reading.{Reading}
use Rattle.dayfile.specs.Handed.{refused_or, written_as, moved_as}
use Rattle.dayfile.specs.declared.refusals.Refusal.{Refusal}
use Rattle.dayfile.specs.declared.moving.Moved.{Moved}
use Rattle.dayfile.proofs.Laws.Writing.{number_reported}
use Rattle.dayfile.proofs.Laws.Reading.{reading_accepted, read_reports, position_with_17}

module _ (file : List ℕ) (form : ℕ) where
  pub as_written : (size at : ℕ) → (read_of file).number ≡ 0 → is_form form ≡ true
      → write_number (read_of file).sheet (read_of file).justified form size at ≡ move_number file form size at
  unfolding move_number
  as_written size at read known =
      let reports = read_reports file (read_of file) refl read in
      number_reported (read_of file).sheet (read_of file).justified form size at reports known ∙ rw (known, read)

module _ (file : List ℕ) (form at : ℕ) (buffer : List ℕ) where
  -- the answer and the other buffer after it
  abbrev pub AnsweredMove : Moved → List ℕ → Type 0
  AnsweredMove r after = (r ≡ moved file form (length buffer) at) × (after ≡ moved_into file form at buffer)

  pub no_form : is_form form ≡ false → AnsweredMove (record { number = 2; bytes = 0; position = 0 }) buffer
  unfolding moved moved_into move_number
  no_form e = (rw e, rw e)

  pub unread : (r : Reading) → r ≡ read_of file → is_form form ≡ true → (r.number ≡ 0 → ⊥)
      → AnsweredMove (record { number = r.number; bytes = 0; position = r.position }) buffer
  unfolding moved moved_into move_number
  unread r e known some =
      let other = ne_eqb _ 0 (λ z. some (ap (λ (x : Reading). x.number) e ∙ z)) in
      (rw (e, known, other) (rw other (ap (λ (p : ℕ). record { number = (read_of file).number; bytes = 0; position = p }) (sym (position_with_17 file)))), rw (known, other, other))

  -- what was read, written
  pub read_and_written : (r : Reading) (w : Result ℕ Refusal) (after : List ℕ) → r ≡ read_of file → is_form form ≡ true → r.number ≡ 0
      → w ≡ written_as r.sheet r.justified form (length buffer) at → after ≡ written_into r.sheet r.justified form at buffer
      → AnsweredMove (moved_as w) after
  unfolding moved moved_into written_as written_into
  read_and_written r w after e known zero e₁ e₂ =
      let read : (read_of file).number ≡ 0 = sym (ap (λ (x : Reading). x.number) e) ∙ zero in
      let number = ap (λ (x : Reading). write_number x.sheet x.justified form (length buffer) at) e ∙ as_written file form (length buffer) at read known in
      let position : (read_of file).position ≡ 0 = ap (λ (x : Reading). x.position) (reading_accepted file read).reading_is in (
        ap moved_as e₁
            ∙ ap₂ (λ (n : ℕ) (x : Reading). moved_as (refused_or n (sheet_size (form_of form) x.sheet.count))) number e
            ∙ moved_by _ _
            ∙ rw position (same_either (eqb (move_number file form (length buffer) at) 17)),
        e₂ ∙ ap₂ (λ (n : ℕ) (x : Reading). cond (eqb n 0) (placed buffer at (sheet_bytes x.sheet x.justified form)) buffer) number e,
      )
    where
      moved_by : (n bytes : ℕ) → moved_as (refused_or n bytes) ≡ record { number = n; bytes = cond (eqb n 0) bytes 0; position = 0 }
      moved_by n bytes =
          by_test (eqb n 0)
          (λ t. let zero : n ≡ 0 = eqb-true n 0 t in rw zero)
          (λ f. rw f)

      same_either : (t : Bool) → let n = move_number file form (length buffer) at in
          ◌≡◌ {A = Moved}
          (record { number = n; bytes = cond (eqb n 0) (sheet_size (form_of form) (read_of file).sheet.count) 0; position = 0 })
          (record { number = n; bytes = cond (eqb n 0) (sheet_size (form_of form) (read_of file).sheet.count) 0; position = cond t 0 0 })
      same_either true = refl
      same_either false = refl
