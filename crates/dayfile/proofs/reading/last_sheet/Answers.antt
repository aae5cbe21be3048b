-- `last_sheet` meets its contract: the frame, the records by the sheet's own `resume`, then its report and its trailer.
use Rattle.std.proofs.Common.{ℕ, ◌-◌, ◌≤◌, ◌≡◌, sym, ap, ap₂, ◌∙◌, false, not, arith, List, length, length-drop, Err}
use Rattle.dayfile.specs.Forms.{form_of}
use Rattle.dayfile.specs.Record.{records_in}
use Rattle.dayfile.specs.Trailer.{sheet_size, vessel_in}
use Rattle.dayfile.specs.Reading.{last_trailer, last_form, start_of, no_sheet, fault_in, sheet_in}
use Rattle.dayfile.specs.Handed.{each_read_as}
use Rattle.dayfile.specs.declared.forms.Form.{Form}
use Rattle.dayfile.specs.declared.trailer.Trailer.{Trailer}
use borrow.Author.Tests.{not-false}
use Rattle.std.proofs.lemmas.Bool.{not-true}
use Rattle.dayfile.specs.declared.refusals.Refusal.{Refusal}
use Rattle.dayfile.proofs.Laws.Handed.{none_where, some_where}
use Rattle.dayfile.proofs.Laws.Forms.{narrow_record, narrow_vessel}
use Rattle.dayfile.proofs.Laws.Reading.{framed, count_fits, resumed_last, refuse_16, refuse_17, read_judged}
use Rattle.dayfile.proofs.reading.last_sheet.Goals.{After-form_of-form, After-resume-resumed}
use Rattle.dayfile.proofs.reading.last_sheet.Goals as goal

pub returns-in_default : goal.returns-in_default
returns-in_default c =
    let none : not (no_sheet c.args.file.now) ≡ false = none_where _ _ (sym c.in_default.ensures) in
    ap (λ (r : Refusal). Err r) c.numbered.ensures ∙ refuse_16 _ (not-false _ none)

-- what is known of the file once its trailer t is read and its form f is found
record Known (file : List ℕ) (t : Trailer) (f : Form) : Type 0 where
  ends_in_sheet : no_sheet file ≡ false
  trailer : t ≡ last_trailer file
  form : f ≡ last_form file
  few : t.count ≤ 200

known : (c : After-form_of-form) → Known c.args.file.now c.in-Some.trailer c.form_of-form.result
known c =
    let read = some_where _ _ _ (sym c.in-Some.ensures) in
    let in_sheet = not-true _ read.1 in
    let trailer = read.0 in
    record {
      ends_in_sheet = in_sheet;
      trailer = trailer;
      form = c.form_of-form.ensures ∙ ap (λ (t : Trailer). form_of t.form) trailer;
      few = omega (arith, ap (λ (t : Trailer). t.count) trailer, count_fits c.args.file.now in_sheet);
    }

-- the sheet is as long as its count says, within the file
module _ {file : List ℕ} {t : Trailer} {f : Form} (k : Known file t f) {n : ℕ} (size : n ≡ sheet_size f t.count) where
  sized : n ≡ sheet_size (last_form file) (last_trailer file).count
  sized = size ∙ ap₂ (λ (f : Form) (t : Trailer). sheet_size f t.count) k.form k.trailer

  fits_in : n ≤ length file
  fits_in = omega (arith, sized, (framed file k.ends_in_sheet).reaches)

  starts : length file - n ≡ start_of file
  starts = ap (λ (n : ℕ). length file - n) sized

pub sheet_size-requires : goal.sheet_size-requires
sheet_size-requires c =
    (known (goal.at.sheet_size-requires c).After-form_of-form).few

pub overflow_sub-start : goal.overflow_sub-start
overflow_sub-start c =
    let k = known (goal.at.overflow_sub-start c).After-form_of-form in
    omega (arith, fits_in k c.sheet_size.ensures)

pub read_records-spaces-requires : goal.read_records-spaces-requires
read_records-spaces-requires c =
    let k = known (goal.at.read_records-spaces-requires c).After-form_of-form in
    let all = ap length c.part_from.ensures ∙ length-drop (length c.args.file.now - c.sheet_size.result) c.args.file.now in
    record {
      count_bound = (k.few, omega (arith, all, fits_in k c.sheet_size.ensures, c.sheet_size.ensures));
      narrow = rw c.form_of-form.ensures (narrow_record c.in-Some.trailer.form);
    }

pub read_vessel-vessel-requires : goal.read_vessel-vessel-requires
read_vessel-vessel-requires c =
    let k = known (goal.at.read_vessel-vessel-requires c).After-form_of-form in (
      rw c.form_of-form.ensures (narrow_vessel c.in-Some.trailer.form),
      omega (arith, fits_in k c.sheet_size.ensures, c.sheet_size.ensures),
    )

-- what resuming the records of the last sheet tells
judged_last : (c : After-resume-resumed) → Known c.args.file.now c.in-Some.trailer c.form_of-form.result
    → (let all = c.args.file.now in
    (c.resume-resumed.result.position ≡ fault_in all) × (fault_in all ≡ 0 → c.resume-resumed.result.sheet ≡ sheet_in all))
judged_last c k =
    let f = c.form_of-form.result in
    let count = c.in-Some.trailer.count in
    let read = c.of.ensures ∙ c.read_records-spaces.ensures ∙ ap (λ (bytes : List ℕ). each_read_as f (records_in f count bytes)) c.part_from.ensures in
    resumed_last c.args.file.now k.ends_in_sheet _ _ _ _ _ _ k.trailer k.form (starts k c.sheet_size.ensures) (c.read_vessel-vessel.ensures ∙ ap (λ (g : Form). vessel_in g c.args.file.now) k.form) read c.resume-resumed.ensures

pub returns-then-resumed-ne0 : goal.returns-then-resumed-ne0
returns-then-resumed-ne0 c =
    let k = known (goal.at.returns-then-resumed-ne0 c).After-form_of-form in
    let e = judged_last (goal.at.returns-then-resumed-ne0 c).After-resume-resumed k in
    ap (λ (p : ℕ). Err (record { number = 17; position = p })) e.0
    ∙ refuse_17 c.args.file.now k.ends_in_sheet (λ none. c.if-resumed-ne0.true (e.0 ∙ none))

pub returns : goal.returns
returns c =
    let k = known (goal.at.returns c).After-form_of-form in
    let e = judged_last (goal.at.returns c).After-resume-resumed k in
    let none = sym e.0 ∙ c.if-resumed-ne0.false in
    c.judged.ensures ∙ read_judged c.args.file.now _ _ _ (e.1 none) k.trailer (starts k c.sheet_size.ensures) k.ends_in_sheet none
