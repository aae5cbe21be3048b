-- The loop's invariant: section i is the one after i - first of those of the stations from j on.
use Rattle.std.proofs.Common.{◌≤◌, ◌+◌, ◌*◌, ◌-◌, ◌≡◌, get_or}
use Rattle.measure.specs.Sections.{zones_from, section_zones}
use Rattle.measure.proofs.sections.Layout.section_zone.Given as goal

abbrev pub invariant-loop-j : goal.invariant-loop-j
invariant-loop-j l =
    (l.first ≤ l.i)
    × (l.first ≤ 2 * l.j)
    × (get_or (section_zones l.self) l.i 0 ≡ get_or (zones_from l.self l.j (l.self.p + 1 - l.j)) (l.i - l.first) 0)
