-- `Sheet::restand` meets its contract.
use Rattle.std.proofs.Common.{rules}
use Rattle.sheet.proofs.Laws.Changes.{place_restood, place_restood_beyond}
use Rattle.sheet.proofs.sheet.Sheet.restand.Goals as goal

pub returns-then-p-self : goal.returns-then-p-self
returns-then-p-self c = place_restood c.args.self.now c.requires (search rules) c.args.p c.args.standing c.if-p-self.true

pub returns-else-p-self : goal.returns-else-p-self
returns-else-p-self c = place_restood_beyond c.args.self.now c.requires (search rules) c.args.p c.args.standing c.if-p-self.false
