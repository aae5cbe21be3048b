-- `put_sheet` meets its contract: its lines are put one behind the other, from what the sheet hands out.
use Rattle.std.proofs.Common.{arith}
use Rattle.listing.proofs.Laws.Listing.{text_handed_out}
use Rattle.listing.proofs.Laws.Puts.{then}
use Rattle.listing.proofs.listing.Listing.put_sheet.Goals as goal

pub returns : goal.returns
returns c =
    let length' = c.tonnage_length.ensures in
    let figures = c.figures-figures.ensures in
    let text = text_handed_out c.args.sheet c.args.justified c.requires.1 in
    let lines = then (then (then c.put_figure.ensures.put c.put_spaces.ensures.put) c.put_figure-2.ensures.put) c.put_figure-3.ensures.put in
    let all = rw (c.from.ensures, length', c.standing.ensures.spaces, figures, text) at lines in
    record { put = all; fits = omega (arith, c.standing.result.few, all.size) }
