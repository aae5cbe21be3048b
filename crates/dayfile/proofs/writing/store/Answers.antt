-- `writing::store` meets its contract: refused for a number lost, for room or for deductions that pass gross; else the records are stored,
-- and what stands behind them.
use Rattle.std.proofs.Common.{ℕ, ◌+◌, ◌*◌, ◌-◌, ◌≤◌, ◌≡◌, refl, sym, ap, ◌∙◌, Bool, true, false, ◌||◌, List, le_trans, mul-le-mul_left, mul-le-mul_right, arith, ltb-false, ltb, length, length-take, length-drop, rules}
use Rattle.spaces.specs.declared.space.Space.{Space}
use Rattle.dayfile.specs.Forms.{form_of, lost}
use Rattle.dayfile.specs.Record.{record_size}
use Rattle.dayfile.specs.Trailer.{end_size, sheet_size}
use Rattle.dayfile.specs.Writing.{loses_deck, too_little_room}
use Rattle.dayfile.specs.Handed.{most_record}
use Rattle.dayfile.specs.declared.forms.Form.{Form}
use Rattle.dayfile.specs.declared.trailer.Trailer.{Trailer}
use Rattle.dayfile.proofs.Laws.Writing.{loses, no_room, over_gross, stored_whole}
use Rattle.dayfile.proofs.writing.store.Goals.{After-too_little_room-short}
use Rattle.dayfile.proofs.writing.store.Goals as goal

-- a sheet of n spaces has room from a place on, in the form f, which is g
record Room (f g : Form) (at n : ℕ) (buffer : List ℕ) : Type 0 where
  form : f ≡ g
  few : n ≤ 200
  from_place : at ≤ length buffer
  enough : sheet_size f n ≤ length buffer - at

-- its records' bytes are counted, and what stands behind them has room too
ends : {f g : Form} {at n r : ℕ} {buffer : List ℕ} → Room f g at n buffer → (r ≡ record_size f) × (r ≤ most_record)
    → (r * n ≤ most_record * 200) × (at + r * n + end_size g ≤ length buffer)
ends {f} {n} {r} h size =
    let many : r * n ≡ record_size f * n = ap (λ (m : ℕ). m * n) size.0 in (
      le_trans (mul-le-mul_right n size.1) (mul-le-mul_left most_record h.few),
      omega (arith, many, h.from_place, h.enough, ap end_size h.form),
    )

-- 20, 15 and 21, as the code looks for them
module _ (c : After-too_little_room-short) where
  abbrev t : Trailer
  t = c.args.trailer

  abbrev pass : Bool
  pass = c.args.deductions_pass

  abbrev vessel : ℕ
  vessel = c.args.vessel

  abbrev row : List Space
  row = c.args.spaces.now

  abbrev at : ℕ
  at = c.args.at

  abbrev buffer : List ℕ
  buffer = c.args.buf.now

  few : t.count ≤ 200
  few = c.requires.0

  full : length row ≡ t.count
  full = c.requires.1

  form_is : c.form_of-form.result ≡ form_of t.form
  form_is = c.form_of-form.ensures

  loses_is : c.loses_number-loses.result ≡ (lost (form_of t.form).vessel vessel || loses_deck (form_of t.form) row)
  loses_is =
      c.loses_number-loses.ensures
      ∙ ap (λ (f : Form). lost f.vessel vessel || loses_deck f row) form_is

  size_is : c.sheet_size-size.result ≡ sheet_size (form_of t.form) t.count
  size_is = c.sheet_size-size.ensures ∙ ap (λ (f : Form). sheet_size f t.count) form_is

  short_is : c.too_little_room-short.result ≡ too_little_room (form_of t.form) t.count (length buffer) at
  short_is = c.too_little_room-short.ensures ∙ ap (λ (n : ℕ). ltb (length buffer - at) n) size_is

  -- there is room for all of it
  module _ (left : c.too_little_room-short.result ≡ false) where
    enough : c.sheet_size-size.result ≤ length buffer - at
    enough = ltb-false _ _ (sym c.too_little_room-short.ensures ∙ left)

    from_place : at ≤ length buffer
    from_place = omega (arith, enough, size_is)

    room : Room c.form_of-form.result (form_of t.form) at t.count buffer
    room = record { form = form_is; few = few; from_place = from_place; enough = omega (arith, enough, c.sheet_size-size.ensures) }

-- what comes first in a refusal is found among the tests that the code has made on the way to it
pub returns-then-loses : goal.returns-then-loses
returns-then-loses c =
    let p = (goal.at.returns-then-loses c).After-too_little_room-short in
    let lost : c.loses_number-loses.result ≡ true = cc in
    record {
      answer = (loses (t p) (pass p) (vessel p) (row p) (at p) (buffer p) _ (cc) (sym (loses_is p) ∙ lost)).0;
      buffer = (loses (t p) (pass p) (vessel p) (row p) (at p) (buffer p) _ refl (sym (loses_is p) ∙ lost)).1;
    }

pub returns-then-short : goal.returns-then-short
returns-then-short c =
    let p = (goal.at.returns-then-short c).After-too_little_room-short in
    let kept : c.loses_number-loses.result ≡ false = cc in
    let short : c.too_little_room-short.result ≡ true = cc in
    record {
      answer = (no_room (t p) (pass p) (vessel p) (row p) (at p) (buffer p) _ (cc) (sym (loses_is p) ∙ kept) (sym (short_is p) ∙ short)).0;
      buffer = (no_room (t p) (pass p) (vessel p) (row p) (at p) (buffer p) _ refl (sym (loses_is p) ∙ kept) (sym (short_is p) ∙ short)).1;
    }

pub returns-then-deductions_pass : goal.returns-then-deductions_pass
returns-then-deductions_pass c =
    let p = (goal.at.returns-then-deductions_pass c).After-too_little_room-short in
    let kept : c.loses_number-loses.result ≡ false = cc in
    let enough : c.too_little_room-short.result ≡ false = cc in
    let over : c.args.deductions_pass ≡ true = cc in
    record {
      answer = (over_gross (t p) (pass p) (vessel p) (row p) (at p) (buffer p) _ (cc) (sym (loses_is p) ∙ kept) (sym (short_is p) ∙ enough) over).0;
      buffer = (over_gross (t p) (pass p) (vessel p) (row p) (at p) (buffer p) _ refl (sym (loses_is p) ∙ kept) (sym (short_is p) ∙ enough) over).1;
    }

pub slice_bounds-write_records-count : goal.slice_bounds-write_records-count
slice_bounds-write_records-count c = omega (arith, from_place (goal.at.slice_bounds-write_records-count c).After-too_little_room-short c.if-short.false)

pub slice_bounds-write_records-start : goal.slice_bounds-write_records-start
slice_bounds-write_records-start c = omega (arith, from_place (goal.at.slice_bounds-write_records-start c).After-too_little_room-short c.if-short.false)

pub write_records-requires : goal.write_records-requires
write_records-requires c =
    let p = (goal.at.write_records-requires c).After-too_little_room-short in
    let left = c.if-short.false in
    let many = ap (λ (n : ℕ). record_size c.form_of-form.result * n) (full p) in
    simp (length-take, length-drop) (omega (arith, enough p left, from_place p left, c.sheet_size-size.ensures, many))

pub overflow_mul-end : goal.overflow_mul-end
overflow_mul-end c = record { fits = omega (arith, (ends (room (goal.at.overflow_mul-end c).After-too_little_room-short c.if-short.false) c.record_size.ensures).0) }

pub overflow_add-end : goal.overflow_add-end
overflow_add-end c = let h = (ends (room (goal.at.overflow_add-end c).After-too_little_room-short c.if-short.false) c.record_size.ensures).1 in search rules

pub slice_bounds-write_end-count : goal.slice_bounds-write_end-count
slice_bounds-write_end-count c = let h = (ends (room (goal.at.slice_bounds-write_end-count c).After-too_little_room-short c.if-short.false) c.record_size.ensures).1 in search rules

pub slice_bounds-write_end-start : goal.slice_bounds-write_end-start
slice_bounds-write_end-start c = let h = (ends (room (goal.at.slice_bounds-write_end-start c).After-too_little_room-short c.if-short.false) c.record_size.ensures).1 in search rules

pub write_end-requires : goal.write_end-requires
write_end-requires c = let h = (ends (room (goal.at.write_end-requires c).After-too_little_room-short c.if-short.false) c.record_size.ensures).1 in search rules

pub returns : goal.returns
returns c =
    let p = (goal.at.returns c).After-too_little_room-short in
    let left = c.if-short.false in
    let n = (t p).count in
    let w =
    stored_whole (t p) (pass p) (vessel p) (row p) (at p) (buffer p) _ _ _ _ _
    (sym (loses_is p) ∙ c.if-loses.false)
    (sym (short_is p) ∙ left)
    c.if-deductions_pass.false
    (full p)
    (size_is p)
    (ap (λ (r : ℕ). at p + r * n) c.record_size.ensures.0 ∙ ap (λ (g : Form). at p + record_size g * n) (form_is p))
    (from_place p left)
    (enough p left)
    refl
    (rw (form_is p) at c.write_records.ensures)
    c.write_end.ensures
    in
    record { answer = w.0; buffer = w.1 }
