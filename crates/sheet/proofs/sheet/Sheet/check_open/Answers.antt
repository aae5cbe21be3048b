-- `Sheet::check_open` meets its contract.
use Rattle.std.proofs.Common.{sym, ◌∙◌}
use Rattle.sheet.proofs.Laws.Sheet.{opened}
use Rattle.sheet.proofs.sheet.Sheet.check_open.Goals as goal

pub returns-then-usable : goal.returns-then-usable
returns-then-usable c = opened _ (sym c.usable.ensures ∙ c.if-usable.true)
