-- `homes::Homes::of` meets its contract. The loop's invariant: the enclosing places of the spaces passed are laid down.
use Rattle.spaces.proofs.Laws.Homes.{HomedUpTo}
use Rattle.spaces.proofs.homes.Homes.of.Given as goal

abbrev pub invariant-loop-at : goal.invariant-loop-at
invariant-loop-at l = HomedUpTo l.at l.row.spaces.now l.places
