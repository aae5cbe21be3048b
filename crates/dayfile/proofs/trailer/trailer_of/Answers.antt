-- `trailer_of` meets its contract: numbers in their ranges fit their types, and their distance doesn't overflow.
use Rattle.std.proofs.Common.{ℕ, List, Some, ◌≡◌, true, sym, ap, ◌∙◌, get_or, arith, lit<, eq-eqb, ne_eqb}
use Rattle.measure.proofs.Laws.Tests.{as_answered}
use Rattle.dayfile.specs.Forms.{is_form, form_of}
use Rattle.dayfile.specs.Trailer.{form_in, trailer_fields, trailer_right, sheet_size}
use Rattle.measure.specs.Volumes.{hundredths}
use Rattle.dayfile.specs.Fields.{fitting}
use Rattle.dayfile.specs.declared.trailer.Trailer.{Trailer}
use Rattle.dayfile.specs.declared.forms.Form.{Form}
use Rattle.dayfile.proofs.Laws.Handed.{none_told, some_told}
use Rattle.dayfile.proofs.Laws.Forms.{told_is_form}
use Rattle.dayfile.proofs.Laws.Trailer.{within_fields}
use Rattle.dayfile.proofs.trailer.trailer_of.Goals.{After-sheet_size}
use Rattle.dayfile.proofs.trailer.trailer_of.Goals as goal

pub returns-then-not-in_ranges : goal.returns-then-not-in_ranges
unfolding trailer_right
returns-then-not-in_ranges c = rw (as_answered c.in_ranges.ensures c.if-not-in_ranges.true)

pub returns-in_err-form : goal.returns-in_err-form
unfolding trailer_right
returns-in_err-form c =
    let none : form_in c.args.numbers ≡ 0 = none_told _ (sym c.form_told.ensures ∙ c.in_err-form.was) in
    c.from_residual.ensures ∙ rw (as_answered c.in_ranges.ensures c.if-not-in_ranges.false, none)

-- the form is the one told, and the size is that of a sheet in it
record Sized (numbers : List ℕ) (form size : ℕ) : Type 0 where
  told : form ≡ form_in numbers
  known : is_form (form_in numbers) ≡ true
  is : size ≡ sheet_size (form_of (form_in numbers)) (get_or numbers 1 0)

sized : (c : After-sheet_size) → Sized c.args.numbers c.in_ok-form.form c.sheet_size.result
sized c =
    let v = c.args.numbers in
    let s = some_told _ _ (sym c.form_told.ensures ∙ c.in_ok-form.was) in
    record {
      told = s.0;
      known = told_is_form _ s.1;
      is = c.sheet_size.ensures ∙ ap (λ (f : Form). sheet_size f (get_or v 1 0)) (c.form_of.ensures ∙ ap form_of s.0);
    }

pub returns-then-numbers-sheet_size : goal.returns-then-numbers-sheet_size
unfolding trailer_right
returns-then-numbers-sheet_size c =
    let s = sized (goal.at.returns-then-numbers-sheet_size c).After-sheet_size in
    rw (as_answered c.in_ranges.ensures c.if-not-in_ranges.false, s.known, ne_eqb _ _ (λ e. c.if-numbers-sheet_size.true (e ∙ sym s.is)))

right : (v : List ℕ) (form size : ℕ) → fitting trailer_fields v ≡ true → Sized v form size → get_or v 0 0 ≡ size → trailer_right v ≡ true
unfolding trailer_right
right v form size fits s e = rw (fits, s.known, eq-eqb _ _ (e ∙ s.is))

pub overflow_cast-result : goal.overflow_cast-result
overflow_cast-result c = omega (arith, within_fields c.args.numbers 2 (lit< tt) (as_answered c.in_ranges.ensures c.if-not-in_ranges.false))

pub overflow_cast-result-2 : goal.overflow_cast-result-2
overflow_cast-result-2 c = omega (arith, within_fields c.args.numbers 4 (lit< tt) (as_answered c.in_ranges.ensures c.if-not-in_ranges.false))

pub returns : goal.returns
returns c =
    let v = c.args.numbers in
    let s = sized (goal.at.returns c).After-sheet_size in
    let trailer : ℕ → Trailer =
    λ form. record {
      count = get_or v 1 0;
      justified = get_or v 2 0;
      form = form;
      tonnage_length = hundredths (get_or v 4 0);
      gross = get_or v 5 0;
      net = get_or v 6 0;
    } in
    rw (right v _ _ (as_answered c.in_ranges.ensures c.if-not-in_ranges.false) s c.if-numbers-sheet_size.false)
    (ap (λ (n : ℕ). Some (trailer n)) s.told)
