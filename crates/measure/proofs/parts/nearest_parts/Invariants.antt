-- The loop's invariant: the best so far is the nearest of the last i + 1 even numbers.
use Rattle.std.proofs.Common.{◌≡◌}
use Rattle.measure.proofs.Laws.Parts.{nearest_of_last}
use Rattle.measure.proofs.parts.nearest_parts.Given as goal

abbrev pub invariant-loop-i : goal.invariant-loop-i
invariant-loop-i l = l.best ≡ nearest_of_last l.whole l.parts l.length l.i
