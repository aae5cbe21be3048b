-- `homes::First` finds the enclosing space among the first.
use Rattle.std.proofs.Common.{◌∙◌, sym, ap, arith, get_or, Some}
use Rattle.spaces.specs.Space.{empty_space}
use Rattle.spaces.proofs.Laws.Before.{enclosed_before, not_before}
use Rattle.spaces.proofs.homes.FirstChains.enclosing.Goals as goal

pub returns-then-home-self : goal.returns-then-home-self
returns-then-home-self c =
    let first = c.args.self.now in
    let xs = first.homes.now.row.spaces.now in
    ap (λ p. Some (get_or xs p empty_space)) c.place-home.ensures.place ∙ sym (enclosed_before (get_or xs c.args.at empty_space) xs first.most first.within (omega arith))

pub returns-else-home-self : goal.returns-else-home-self
returns-else-home-self c =
    let first = c.args.self.now in
    let xs = first.homes.now.row.spaces.now in
    sym (not_before (get_or xs c.args.at empty_space) xs first.most first.within (omega arith))
