-- The loop's invariant: the sum so far and what is left to sum are the whole.
use Rattle.std.proofs.Common.{◌≤◌, ◌+◌, ◌*◌, ◌^◌, ◌≡◌, drop}
use Rattle.measure.specs.Multipliers.{weighted, weighted_from}
use Rattle.measure.proofs.multipliers.weighted_sum.Given as goal

abbrev pub invariant-loop-i : goal.invariant-loop-i
invariant-loop-i l =
    (l.sum + weighted_from l.parts (l.i + 1) (drop l.i l.values) ≡ weighted l.parts l.values) × (l.sum ≤ 4 * 2 ^ 32 * l.i)
