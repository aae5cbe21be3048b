-- `enclosure::Row::all_above` meets its contract.
use Rattle.spaces.specs.Enclosure.{above}
use Rattle.spaces.proofs.row.Row.all_above.Goals as goal

pub returns : goal.returns
unfolding above
returns c = c.walk.ensures.met
