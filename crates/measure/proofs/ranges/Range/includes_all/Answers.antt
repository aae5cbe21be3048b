-- `all` answers as the test that recurses over the list.
use Rattle.std.proofs.Common.{refl, rules}
use Rattle.std.proofs.lemmas.List.Recursion.{and_is}
use Rattle.measure.specs.Ranges.{includes, includes_all}
use Rattle.measure.proofs.ranges.Range.includes_all.Goals as goal

pub returns : goal.returns
returns c =
    let r = c.args.self in
    and_is (includes_all r) (includes r) refl (λ _ _. refl) c.args.xs.now 0 _ (search rules) (search rules)
