-- The loop's invariant: `end` is that of zone k, and the first k ends were looked at.
use Rattle.std.proofs.Common.{ℕ, ◌≤◌, ◌+◌, ◌*◌, ◌≡◌, ap, ap₂, ◌∙◌, Bool, ◌||◌, eqb, ltb, arith}
use Rattle.measure.specs.Zones.{zone_of, between}
use Rattle.measure.specs.Sections.{station_at, zone_of_station, between_zones}
use Rattle.measure.proofs.Laws.Products.{at_most}
use Rattle.measure.proofs.Laws.Tests.{one_if_most}
use Rattle.measure.proofs.Laws.Multipliers.{multiplier_le}
use Rattle.measure.proofs.Laws.Zones.{end_next, ends_next, met_next}
use Rattle.measure.proofs.sections.Layout.zone_of.Goals.{After-multiplier}
use Rattle.measure.proofs.sections.Layout.zone_of.Goals as goal

-- a turn's term is at most four thirds
term_le : (c : After-multiplier) → c.multiplier.result * c.third_of_interval-third.result ≤ 4 * 68719476736
term_le c =
    let h = multiplier_le c.args.self.n (c.loop-k.k + 1) in
    at_most 4 68719476736 (omega (arith, c.multiplier.ensures)) (omega arith)

pub overflow_mul-end : goal.overflow_mul-end
overflow_mul-end c = omega (arith, term_le (goal.at.overflow_mul-end c).After-multiplier)

pub overflow_add-end : goal.overflow_add-end
overflow_add-end c = omega (arith, term_le (goal.at.overflow_add-end c).After-multiplier)

pub loop-k-preserved : goal.loop-k-preserved
loop-k-preserved c =
    let third = c.third_of_interval-third in
    let point = c.station_at-point in
    let a = c.args in
    let k = c.loop-k.k in
    let le = term_le (goal.at.loop-k-preserved c).After-multiplier in
    let end = c.loop-k.end + c.multiplier.result * third.result in
    let ended = ap₂ ◌+◌ c.loop-k.invariant.0 (ap (λ (x : ℕ). x * third.result) c.multiplier.ensures) ∙ end_next a.self.n k third.result in
    let passed = ends_next a.self.n a.self.u (station_at a.self a.j) k third.ensures.0 point.ensures ended in
    let one = one_if_most (ltb end point.result) in (
      ended,
      omega arith,
      omega (arith, c.from-zone.ensures),
      omega (arith, c.from-zone.ensures),
      ap (λ (met : Bool). met || eqb point.result end) c.loop-k.invariant.4
          ∙ met_next a.self.n a.self.u (station_at a.self a.j) k third.ensures.0 point.ensures ended,
    )

pub returns : goal.returns
unfolding zone_of_station zone_of between_zones between
returns c =
    let a = c.args in
    let all : c.loop-k.k ≡ a.self.n = omega arith in
    (rw (c.loop-k.invariant.2, c.loop-k.invariant.4, all), omega (arith, c.requires.0.of_u))
