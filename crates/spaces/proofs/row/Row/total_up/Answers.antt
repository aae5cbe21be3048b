-- `sums::Row::total_up` meets its contract.
use Rattle.spaces.specs.Row.{totals_of}
use Rattle.spaces.proofs.row.Row.total_up.Goals as goal

pub returns-clause-totals : goal.returns-clause-totals
unfolding totals_of
returns-clause-totals c = cc
