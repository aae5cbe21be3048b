-- `read_and_store` meets its contract: refused by its form, as the file is read, or as the sheet read is written.
use Rattle.std.proofs.Common.{◌∙◌, Err, refl, sym, ap}
use Rattle.measure.proofs.Laws.Tests.{as_answered}
use Rattle.sheet.proofs.Laws.Report.{given_past_14}
use Rattle.dayfile.specs.Handed.{accepted_from, moved_as}
use Rattle.dayfile.specs.Reading.{refused_reading}
use Rattle.dayfile.specs.declared.refusals.Refusal.{Refusal}
use Rattle.std.proofs.lemmas.Result.{err_from_is_err_and}
use Rattle.dayfile.proofs.Laws.Reading.{read_reports, accepted_is, refusal_is}
use Rattle.dayfile.proofs.Laws.Moving.{no_form, unread, read_and_written}
use Rattle.dayfile.proofs.moving.read_and_store.Goals as goal

pub returns-then-not-is_form : goal.returns-then-not-is_form
returns-then-not-is_form c =
    let a = c.args in
    let w = no_form a.from.now a.form a.at a.to.now (as_answered c.is_form.ensures c.if-not-is_form.true) in
    record { answer = ap (λ (r : Refusal). moved_as (Err r)) c.numbered.ensures ∙ w.0; buffer = w.1 }

pub returns-in_err-last : goal.returns-in_err-last
unfolding refused_reading
returns-in_err-last c =
    let a = c.args in
    let (e, is, same) = err_from_is_err_and c.from_residual.result c.from_residual.ensures.1 in
    let (read, some) = refusal_is a.from.now _ (sym c.in_err-last.ensures) in
    let w = unread a.from.now a.form a.at a.to.now _ read (as_answered c.is_form.ensures c.if-not-is_form.false) some in
    record {
      answer = ap moved_as is ∙ ap (λ (r : Refusal). moved_as (Err r)) same ∙ w.0;
      buffer = w.1;
    }

pub store_sheet-requires : goal.store_sheet-requires
store_sheet-requires c =
    let a = c.args in
    let last = c.in_ok-last.last in
    let given = read_reports a.from.now (accepted_from last) (accepted_is a.from.now _ (sym c.in_ok-last.ensures)) refl in
    (record { are = c.figures-figures.ensures; past_14 = given_past_14 last.sheet last.justified given }, as_answered c.is_form.ensures c.if-not-is_form.false)

pub returns : goal.returns
returns c =
    let st = c.store_sheet in
    let a = c.args in
    let w =
    read_and_written a.from.now a.form a.at a.to.now (accepted_from c.in_ok-last.last) st.result _ (accepted_is a.from.now _ (sym c.in_ok-last.ensures))
    (as_answered c.is_form.ensures c.if-not-is_form.false)
    refl
    st.ensures.answer
    st.ensures.buffer
    in
    record { answer = w.0; buffer = w.1 }
