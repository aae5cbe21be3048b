-- The levels left of `enclosure::walk` are one fewer at each level.
use Rattle.spaces.proofs.enclosure.+walk.Given as goal

abbrev pub decreases-walk : goal.decreases-walk
decreases-walk g l = l.left
