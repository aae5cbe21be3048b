-- The loop's invariant: the areas found and those still to take are all.
use Rattle.std.proofs.Common.{ℕ, ◌+◌, sym, ap, ◌∙◌, List, ◌∷◌, ◌++◌, false, arith, take, drop, get_or, length-set}
use Rattle.measure.specs.Tanks.{taken}
use Rattle.measure.proofs.Laws.Lists.{store_step}
use Rattle.measure.proofs.Laws.Tests.{one_if_most}
use Rattle.measure.proofs.Laws.Tanks.{larger_max, taken_step}
use Rattle.measure.proofs.tanks.taken.Goals as goal

pub loop-j-preserved : goal.loop-j-preserved
loop-j-preserved c =
    let two = c.args.two.now in
    let areas = c.args.areas.now in
    let l = c.loop-j in
    let more = c.from.result in
    let one = one_if_most (get_or two l.j false) in
    let later = taken (drop (l.j + 1) two) (drop (l.first + more + 1) areas) in
    let step = taken_step two l.j areas l.first c.loop-j-test.true c.from.ensures (omega arith) in (
      simp length-set l.invariant.0,
      omega (arith, c.from.ensures),
      store_step l.found l.j c.max.result later (omega arith)
          ∙ ap (λ (x : ℕ). take l.j l.found ++ x ∷ later) (c.max.ensures ∙ sym (larger_max _ _))
          ∙ ap (λ (xs : List ℕ). take l.j l.found ++ xs) (sym step)
          ∙ l.invariant.2,
    )
