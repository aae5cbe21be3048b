-- `around::Row::around_space` meets its contract: each part is what its own search, walk or sum answers.
use Rattle.spaces.specs.Around.{around_of}
use Rattle.spaces.proofs.row.Row.around_space.Goals as goal

pub returns : goal.returns
unfolding around_of
returns c = rw (c.beside.ensures, c.stands.ensures, c.all_above-up.ensures, c.enclosing_place-home.ensures)
