-- The loop's invariant: the stations told and those still to tell are all.
use Rattle.std.proofs.Common.{◌+◌, ◌-◌, ◌≡◌, ◌++◌, length, take}
use Rattle.measure.specs.Sections.{between_from, doubled}
use Rattle.measure.proofs.sections.Layout.doubled.Given as goal

abbrev pub invariant-loop-j : goal.invariant-loop-j
invariant-loop-j l =
    (length l.two ≡ 17) × (take l.j l.two ++ between_from l.self l.j (l.self.p + 1 - l.j) ≡ doubled l.self)
