-- `writing::store_sheet` meets its contract: what the sheet hands out is what it holds, so that what is stored is what is written of it.
use Rattle.std.proofs.Common.{◌∙◌}
use Rattle.sheet.proofs.Laws.Report.{figures_past_14, handed_out}
use Rattle.dayfile.proofs.Laws.Writing.{stored_is_written}
use Rattle.dayfile.proofs.writing.store_sheet.Goals as goal

pub returns : goal.returns
returns c =
    let a = c.args in
    let reports = c.requires.0 in
    let f = figures_past_14 a.sheet.now a.justified a.figures reports.are reports.past_14 in
    let out = handed_out a.sheet.now f.is_usable in
    let stand = c.standing.ensures.spaces ∙ out.standing_are in
    let count = c.standing.ensures.counted ∙ out.count_is in
    let w =
    stored_is_written a.sheet.now a.justified a.form a.at a.buf.now _ _ _ _ _ _ _ _ _
    reports.past_14
    c.requires.1
    f.pass_is
    count
    (c.tonnage_length.ensures ∙ out.length_is)
    f.figures_are
    (c.vessel.ensures ∙ out.vessel_is)
    stand
    c.store.ensures.answer
    c.store.ensures.buffer
    in
    record { answer = w.0; buffer = w.1 }
