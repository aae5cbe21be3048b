-- `homes::Homes::of` meets its contract.
use Rattle.std.proofs.Common.{arith}
use Rattle.spaces.proofs.Laws.Homes.{none_homed, one_homed, all_homed}
use Rattle.spaces.proofs.homes.Homes.of.Goals as goal

pub loop-at-init : goal.loop-at-init
loop-at-init c = none_homed c.args.index.now.row.spaces.now

pub loop-at-preserved : goal.loop-at-preserved
loop-at-preserved c =
    let row = c.args.index.now.row in
    one_homed c.loop-at.at row.spaces.now c.loop-at.places c.loop-at.invariant (omega (arith, row.few)) _ c.enclosing_place.ensures.place

pub invariant_of-result : goal.invariant_of-result
invariant_of-result c =
    record { homed = all_homed c.loop-at.at c.args.index.now.row.spaces.now c.loop-at.places c.loop-at.invariant (omega arith) }
