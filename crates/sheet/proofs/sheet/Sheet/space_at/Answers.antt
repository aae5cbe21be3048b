-- `Sheet::space_at` meets its contract: within the places.
use Rattle.std.proofs.Common.{sym, ◌∙◌, arith}
use Rattle.sheet.proofs.Laws.Sheet.{usable_counts}
use Rattle.sheet.proofs.sheet.Sheet.space_at.Goals as goal

pub offset_bounds-spaces-place : goal.offset_bounds-spaces-place
offset_bounds-spaces-place c = omega (arith, (usable_counts _ (sym c.usable.ensures ∙ c.if-usable.true)).places)

pub bounds-spaces-place : goal.bounds-spaces-place
bounds-spaces-place c = omega (arith, (usable_counts _ (sym c.usable.ensures ∙ c.if-usable.true)).places)
