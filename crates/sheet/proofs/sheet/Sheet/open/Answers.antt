-- `Sheet::open` meets its contract.
use Rattle.measure.proofs.Laws.Tests.{as_answered}
use Rattle.sheet.specs.Calls.{opened_with}
use Rattle.sheet.proofs.sheet.Sheet.open.Goals as goal

pub returns-then-not-tonnage_length_fits : goal.returns-then-not-tonnage_length_fits
unfolding opened_with
returns-then-not-tonnage_length_fits c = simp (as_answered c.tonnage_length_fits.ensures c.if-not-tonnage_length_fits.true, c.closed.ensures)

pub returns : goal.returns
unfolding opened_with
returns c = simp (as_answered c.tonnage_length_fits.ensures c.if-not-tonnage_length_fits.false, c.blank.ensures)
