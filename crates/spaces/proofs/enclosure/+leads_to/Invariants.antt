-- The levels left of `enclosure::leads_to` are one fewer at each level.
use Rattle.spaces.proofs.enclosure.+leads_to.Given as goal

abbrev pub decreases-leads_to : goal.decreases-leads_to
decreases-leads_to g l = l.left
