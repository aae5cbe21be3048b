-- `Sheet::remove` meets its contract.
use Rattle.std.proofs.Common.{rules}
use Rattle.sheet.proofs.Laws.Changes.{place_out, place_out_beyond}
use Rattle.sheet.proofs.sheet.Sheet.remove.Goals as goal

pub returns-then-p-self : goal.returns-then-p-self
returns-then-p-self c = rw c.copy_within.ensures.after (place_out c.args.self.now c.requires (search rules) c.args.p c.if-p-self.true)

pub returns-else-p-self : goal.returns-else-p-self
returns-else-p-self c = place_out_beyond c.args.self.now c.requires (search rules) c.args.p c.if-p-self.false
