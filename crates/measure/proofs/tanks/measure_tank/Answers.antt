-- Behind all its tests a tank is handed what it asks.
use Rattle.measure.proofs.Laws.Tests.{as_answered}
use Rattle.measure.proofs.Laws.Tanks.{tank_handed}
use Rattle.measure.proofs.tanks.measure_tank.Goals as goal

pub tonnage-requires : goal.tonnage-requires
tonnage-requires c =
    let a = c.args in
    let laid_a = c.layout-a.result in
    let laid = c.layout-a.ensures in
    let told = c.doubled-stations.ensures in
    let ranged = as_answered c.in_range.ensures c.if-not-in_range.false in
    let has = as_answered c.has_m.ensures c.if-not-has_m.false in
    let all = rw c.from-m.ensures at (as_answered (c.all_sections.ensures laid_a told) c.if-not-all_sections.false) in
    rw c.from-m.ensures
    (laid.1, told, tank_handed a.tonnage_length a.under_deck a.m a.length a.fore a.depths.now a.breadths.now laid.0 laid.1 ranged has all)
