-- `Sheet::standing` meets its contract: a sheet that is open has as many places as are counted.
use Rattle.std.proofs.Common.{◌≡◌, sym, ap, ◌∙◌, arith, length, length-take-le, rules, take}
use Rattle.sheet.specs.Sheet.{standing_count}
use Rattle.sheet.proofs.Laws.Sheet.{usable_counts}
use Rattle.sheet.proofs.sheet.Sheet.standing.Goals.{then-usable, else-usable}
use Rattle.sheet.proofs.sheet.Sheet.standing.Goals as goal

pub returns-clause-counted : goal.returns-clause-counted
unfolding standing_count
returns-clause-counted c =
    let s = c.args.self.now in
    let full : length s.spaces ≡ 200 = search rules in
    let first = ap length c.of.ensures in
    elim c.if-usable.branch [
      | then-usable w ↦
          let on = sym c.usable.ensures ∙ w.if-usable.true in
          first ∙ rw (w.of-is, on) (length-take-le _ _ (omega (arith, full, (usable_counts s on).places)))
      | else-usable w ↦
          let off = sym c.usable.ensures ∙ w.if-usable.false in
          first ∙ rw (w.of-is, off)
    ]
