-- The areas are those of the stations.
use Rattle.measure.proofs.Laws.Volumes.{under_deck_areas}
use Rattle.measure.proofs.volumes.under_deck_tons.Goals as goal

pub tons_over-requires : goal.tons_over-requires
tons_over-requires c = rw c.section_areas-areas.ensures (under_deck_areas c.requires)
