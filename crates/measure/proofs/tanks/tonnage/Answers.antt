-- The areas taken are those of the stations.
use Rattle.measure.proofs.Laws.Tanks.{tank_areas, areas_taken}
use Rattle.measure.proofs.tanks.tonnage.Goals as goal

pub tons_over-requires : goal.tons_over-requires
tons_over-requires c =
    let a = c.args in
    let handed = c.requires.2 in
    let taken = areas_taken a.a a.m a.depths.now a.breadths.now handed a.two.now c.section_areas.result c.taken-areas.result c.requires.1 c.section_areas.ensures c.taken-areas.ensures in
    rw taken (tank_areas a.a a.m a.depths.now a.breadths.now handed c.requires.0)
