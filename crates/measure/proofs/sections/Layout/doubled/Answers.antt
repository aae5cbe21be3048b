-- The loop's invariant: the stations told and those still to tell are all.
use Rattle.std.proofs.Common.{◌+◌, ◌-◌, sym, ap, ◌∙◌, Bool, List, ◌∷◌, ◌++◌, arith, take, length-set}
use Rattle.measure.specs.Sections.{between_from}
use Rattle.measure.specs.declared.sections.Zoned.{Zoned}
use Rattle.measure.proofs.Laws.Parts.{most}
use Rattle.measure.proofs.Laws.Lists.{store_step}
use Rattle.measure.proofs.Laws.Sections.{between_step}
use Rattle.measure.proofs.sections.Layout.doubled.Goals as goal

pub loop-j-preserved : goal.loop-j-preserved
loop-j-preserved c =
    let l = c.loop-j in
    let a = c.args.self in
    let few = most c.requires.of_tank in
    let later = between_from a (l.j + 1) (a.p + 1 - (l.j + 1)) in
    let told = ap (λ (at : Zoned). at.between) c.zone_of.ensures.0 in (
      simp length-set l.invariant.0,
      store_step l.two l.j c.zone_of.result.between later (omega arith)
          ∙ ap (λ (b : Bool). take l.j l.two ++ b ∷ later) told
          ∙ ap (λ (bs : List Bool). take l.j l.two ++ bs) (sym (between_step a l.j (a.p + 1) (omega arith)))
          ∙ l.invariant.1,
    )
