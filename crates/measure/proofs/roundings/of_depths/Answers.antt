-- The loop's invariant: those found are the roundings at the first i stations.
use Rattle.std.proofs.Common.{ap₂, ◌∙◌, List, ℤ, set, w8}
use mir.ValLaws.{to_z-of_z}
use Rattle.measure.proofs.Laws.Roundings.{depths_more}
use Rattle.measure.proofs.roundings.of_depths.Goals as goal

pub loop-i-preserved : goal.loop-i-preserved
loop-i-preserved c =
    let i = c.loop-i.i in
    ap₂ (λ (row : List ℤ) (x : ℤ). set row i x) c.loop-i.invariant (to_z-of_z w8 _ (record { sfits = c.rounding_of_depth.type_inv }) ∙ c.rounding_of_depth.ensures)
    ∙ depths_more c.args.parts i c.args.depths.now c.loop-i-test.true c.requires.2
