-- The loop's invariant: those found are the roundings at the first i stations.
use Rattle.std.proofs.Common.{◌≡◌, take}
use Rattle.measure.specs.Roundings.{of_depths}
use Rattle.measure.proofs.roundings.of_depths.Given as goal

abbrev pub invariant-loop-i : goal.invariant-loop-i
invariant-loop-i l = l.found ≡ of_depths l.parts (take l.i l.depths)
