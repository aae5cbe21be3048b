-- `around::Row::around_each` meets its contract. The loop's invariant: what is around the first i is told, and the sums are theirs.
use Rattle.std.proofs.Common.{◌≡◌}
use Rattle.spaces.proofs.Laws.Around.{Summed, around_first}
use Rattle.spaces.proofs.row.Row.around_each.Given as goal

abbrev pub invariant-loop-i : goal.invariant-loop-i
invariant-loop-i l = record {
  told : l.all ≡ around_first l.self.spaces.now l.i;
  summed : Summed l.self.spaces.now l.i l.inside l.lengths;
}
