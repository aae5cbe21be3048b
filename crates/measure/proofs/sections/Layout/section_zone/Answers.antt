-- The loop's invariant: section i is the one after i - first of those of the stations from j on.
use Rattle.std.proofs.Common.{ℕ, ◌+◌, ◌-◌, ◌≡◌, sym, ap, ◌∙◌, arith, get_or}
use Rattle.std.specs.Int.{from_bool}
use Rattle.measure.specs.Sections.{between_zones, zones_from}
use Rattle.measure.specs.declared.sections.Zoned.{Zoned}
use Rattle.measure.proofs.Laws.Sections.{zone_here, zone_later}
use Rattle.measure.proofs.Laws.Tests.{one_if_most}
use Rattle.measure.proofs.sections.Layout.section_zone.Goals.{After-from}
use Rattle.measure.proofs.sections.Layout.section_zone.Goals as goal

-- the station's sections beyond the first, as the definition has them
second : (c : After-from) → c.from.result ≡ from_bool (between_zones c.args.self c.loop-j.j)
second c = c.from.ensures ∙ ap (λ (at : Zoned). from_bool at.between) c.zone_of-at.ensures.0

pub returns-then-i-next : goal.returns-then-i-next
returns-then-i-next c =
    let a = c.args in
    let more = second (goal.at.returns-then-i-next c).After-from in
    sym
    (c.loop-j.invariant.2
    ∙ zone_here a.self c.loop-j.j (a.self.p + 1) (a.i - c.loop-j.first) c.loop-j-test.true (omega arith)
    ∙ ap (λ (at : Zoned). at.zone + (a.i - c.loop-j.first)) (sym c.zone_of-at.ensures.0))

pub loop-j-preserved : goal.loop-j-preserved
loop-j-preserved c =
    let a = c.args in
    let more = second (goal.at.loop-j-preserved c).After-from in
    let least = one_if_most (between_zones a.self c.loop-j.j) in
    let at : a.i - c.loop-j.first - (1 + from_bool (between_zones a.self c.loop-j.j)) ≡ a.i - (c.loop-j.first + 1 + c.from.result) = omega arith in (
      omega arith,
      omega arith,
      c.loop-j.invariant.2
          ∙ zone_later a.self c.loop-j.j (a.self.p + 1) (a.i - c.loop-j.first) c.loop-j-test.true (omega arith)
          ∙ ap (λ (n : ℕ). get_or (zones_from a.self (c.loop-j.j + 1) (a.self.p + 1 - (c.loop-j.j + 1))) n 0) at,
    )
