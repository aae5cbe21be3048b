-- The loop's invariant: the areas found and those still to take are all.
use Rattle.std.proofs.Common.{◌≤◌, ◌*◌, ◌≡◌, ◌++◌, length, take, drop}
use Rattle.measure.specs.Tanks.{taken}
use Rattle.measure.proofs.tanks.taken.Given as goal

abbrev pub invariant-loop-j : goal.invariant-loop-j
invariant-loop-j l =
    (length l.found ≡ 17)
    × (l.first ≤ 2 * l.j)
    × (take l.j l.found ++ taken (drop l.j l.two) (drop l.first l.areas) ≡ taken l.two l.areas)
