-- `write_sheet` meets its contract: refused with 1, 2, 13 or 14 as its report is or by its form; else what is stored of the sheet.
use Rattle.std.proofs.Common.{◌≡◌, sym, ap, ◌∙◌, Err}
use Rattle.std.proofs.lemmas.Result.{err_from_is_err_and}
use Rattle.sheet.specs.Calls.{reported}
use Rattle.sheet.specs.declared.calls.Figures.{Figures}
use Rattle.dayfile.specs.Forms.{is_form}
use Rattle.dayfile.specs.Handed.{form_refusal}
use Rattle.dayfile.specs.declared.refusals.Refusal.{Refusal}
use Rattle.dayfile.proofs.Laws.Handed.{accepted_by, refused_by}
use Rattle.dayfile.proofs.Laws.Writing.{none_refused, refused_with}
use Rattle.dayfile.proofs.writing.write_sheet.Goals.{After-figures-figures}
use Rattle.dayfile.proofs.writing.write_sheet.Goals as goal

-- 1, 2, 13 or 14, by the report in hand
refusal_is : (c : After-figures-figures)
    → (let a = c.args in form_refusal c.figures-figures.result.number (is_form a.form) ≡ form_refusal (reported a.sheet.now a.justified).number (is_form a.form))
refusal_is c = ap (λ (r : Figures). form_refusal r.number (is_form c.args.form)) c.figures-figures.ensures

pub returns-in_err-form_refusal : goal.returns-in_err-form_refusal
returns-in_err-form_refusal c =
    let a = c.args in
    let (e, is, same) = err_from_is_err_and c.from_residual.result c.from_residual.ensures.1 in
    let (number, some) = refused_by _ tt _ (sym c.in_err-form_refusal.ensures) in
    let w = refused_with a.sheet.now a.justified a.form a.at a.buf.now _ (refusal_is (goal.at.returns-in_err-form_refusal c).After-figures-figures) some in
    record {
      answer = is ∙ ap (λ (r : Refusal). Err r) (same ∙ number) ∙ w.0;
      buffer = w.1;
    }

pub store_sheet-requires : goal.store_sheet-requires
store_sheet-requires c =
    let a = c.args in
    let zero = (accepted_by _ tt _ (sym c.in_ok-form_refusal.ensures)).1 in
    let none = none_refused a.sheet.now a.justified a.form (sym (refusal_is (goal.at.store_sheet-requires c).After-figures-figures) ∙ zero) in
    (record { are = c.figures-figures.ensures; past_14 = none.0 }, none.1)
