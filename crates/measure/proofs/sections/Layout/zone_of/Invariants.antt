-- The loop's invariant: `end` is that of zone k, and the first k ends were looked at.
use Rattle.std.proofs.Common.{◌≤◌, ◌+◌, ◌*◌, ◌≡◌}
use Rattle.measure.specs.Zones.{zone_end, end_met, ends_before}
use Rattle.measure.specs.Sections.{station_at}
use Rattle.measure.proofs.sections.Layout.zone_of.Given as goal

abbrev pub invariant-loop-k : goal.invariant-loop-k
invariant-loop-k l =
    (l.end ≡ zone_end l.self.n l.k * l.third)
    × (l.end ≤ 4 * 68719476736 * l.k)
    × (l.zone ≡ ends_before l.self.n l.self.u (station_at l.self l.j) l.k + 1)
    × (l.zone ≤ l.k + 1)
    × (l.between ≡ end_met l.self.n l.self.u (station_at l.self l.j) l.k)
