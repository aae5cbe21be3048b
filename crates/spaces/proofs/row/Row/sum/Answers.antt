-- `sums::Row::sum` meets its contract: at most 200 shares, each below 2 ^ 32.
use Rattle.std.proofs.Common.{rules, ◌≡◌, ◌+◌, ◌∙◌, sum_by as summed_by, arith}
use Rattle.std.proofs.lemmas.Iterator.{YieldsList-from_slice}
use Rattle.std.proofs.lemmas.Iterator.Adapters.{fits_from_length, at_most_from_yields_List}
use Rattle.spaces.specs.Row.{amount_of, most_sum}
use Rattle.spaces.proofs.Laws.Words.{summed_is}
use Rattle.spaces.proofs.row.Row.sum.Goals as goal

pub returns-clause-total : goal.returns-clause-total
returns-clause-total c =
    let summed : c.sum.result ≡ summed_by (amount_of c.args.which) c.args.self.spaces.now = search rules in
    summed ∙ summed_is (amount_of c.args.which) c.args.self.spaces.now

pub returns-clause-bounded : goal.returns-clause-bounded
returns-clause-bounded c =
    let all = c.sum.ensures.runs tt in
    let most = fits_from_length _ _ 200 (most_sum + 1) (at_most_from_yields_List (YieldsList-from_slice c.args.self.spaces.now cc) c.args.self.few)
    c.map.ensures.closure (omega arith) (λ x r q k. search rules) all.0 all.0.seen all.1 in
    omega (arith, all.3, most)
