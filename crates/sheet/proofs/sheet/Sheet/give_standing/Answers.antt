-- `Sheet::give_standing` meets its contract: the tests of 1, 2, 5, 6 and 8, and the mark made and noted.
use Rattle.std.proofs.Common.{sym, ap, ◌∙◌, ℕ, ltb, lt-ltb, le-ltb}
use Rattle.std.proofs.lemmas.Result.{err_from_is_err_and}
use Rattle.standard.specs.Standings.{greatest_standing}
use Rattle.standard.specs.Rules.{mark_tests, mark_number, mark_ruling}
use Rattle.standard.specs.declared.rules.Ruling.{Ruling}
use Rattle.sheet.specs.Sheet.{standing}
use Rattle.sheet.specs.Calls.{answered, changed, marking, marked}
use Rattle.sheet.specs.declared.changes.Change.TheVariants.{Marked}
use Rattle.sheet.proofs.Laws.Calls.{within}
use Rattle.sheet.proofs.Laws.Sheet.{stand}
use Rattle.sheet.proofs.sheet.Sheet.give_standing.Goals as goal

pub returns-in_err-check_open : goal.returns-in_err-check_open
unfolding marked
returns-in_err-check_open c =
    let p = err_from_is_err_and c.from_residual.result c.from_residual.ensures.1 in
    let off = c.in_err-check_open.ensures in
    rw (p.1, p.2, off.0, off.1)

pub returns-then-standing-gt-GREATEST_STANDING : goal.returns-then-standing-gt-GREATEST_STANDING
unfolding marked
returns-then-standing-gt-GREATEST_STANDING c =
    let o = c.in_ok-check_open.ensures in
    rw (o.usable_is, lt-ltb greatest_standing c.args.standing c.if-standing-gt-GREATEST_STANDING.true)

pub returns : goal.returns
unfolding marked mark_number mark_ruling
returns c =
    let s = c.args.self.now in
    let st = c.args.standing in
    let o = c.in_ok-check_open.ensures in
    c.change.ensures.answer
    ∙ ap (λ (r : Ruling). answered r.number s (changed (Marked r.place r.space.standing st) s)) (rw (c.standing.ensures.spaces ∙ stand o) at c.mark_ruling-ruling.ensures)
    ∙ ap (λ (k : ℕ). answered k s (changed (marking s c.args.id st) s))
    (sym (within s (ltb greatest_standing st) (mark_tests (standing s) c.args.id st) o.usable_is (le-ltb greatest_standing st c.if-standing-gt-GREATEST_STANDING.false)))
