-- `enclosure::Row::plain_below` meets its contract: where no room is directly inside, nothing is below.
use Rattle.std.proofs.Common.{◌∙◌, sym, ap, eq-eqb}
use Rattle.spaces.specs.Enclosure.{all_plain}
use Rattle.spaces.proofs.Laws.Below.{nothing_below}
use Rattle.spaces.proofs.row.Row.plain_below.Goals as goal

pub returns-then-sum-eq0 : goal.returns-then-sum-eq0
returns-then-sum-eq0 c =
    let none = sym c.sum.ensures.total ∙ c.if-sum-eq0.true in
    eq-eqb _ _ c.if-sum-eq0.true ∙ sym (ap all_plain (nothing_below c.args.id c.args.self.spaces.now none))
