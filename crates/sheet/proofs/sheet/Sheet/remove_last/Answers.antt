-- `Sheet::remove_last` meets its contract.
use Rattle.std.proofs.Common.{rules}
use Rattle.sheet.proofs.Laws.Changes.{last_off}
use Rattle.sheet.proofs.sheet.Sheet.remove_last.Goals as goal

pub returns : goal.returns
returns c = rw c.saturating_sub-self.ensures (last_off c.args.self.now c.requires (search rules))
