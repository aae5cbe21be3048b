-- `Sheet::strike_out` meets its contract: the tests of 1, 5 and 11, and the withdrawal made and noted.
use Rattle.std.proofs.Common.{sym, ap, ◌∙◌, ℕ}
use Rattle.std.proofs.lemmas.Result.{err_from_is_err_and}
use Rattle.standard.specs.Rules.{withdraw_tests, withdraw_number, withdraw_ruling}
use Rattle.standard.specs.declared.rules.Ruling.{Ruling}
use Rattle.sheet.specs.Sheet.{standing}
use Rattle.sheet.specs.Calls.{answered, changed, withdrawal, withdrawn}
use Rattle.sheet.specs.declared.changes.Change.TheVariants.{Withdrawn}
use Rattle.sheet.proofs.Laws.Calls.{is_open}
use Rattle.sheet.proofs.Laws.Sheet.{stand}
use Rattle.sheet.proofs.sheet.Sheet.strike_out.Goals as goal

pub returns-in_err-check_open : goal.returns-in_err-check_open
unfolding withdrawn
returns-in_err-check_open c =
    let p = err_from_is_err_and c.from_residual.result c.from_residual.ensures.1 in
    let off = c.in_err-check_open.ensures in
    rw (p.1, p.2, off.0, off.1)

pub returns : goal.returns
unfolding withdrawn withdraw_number withdraw_ruling
returns c =
    let s = c.args.self.now in
    let o = c.in_ok-check_open.ensures in
    c.change.ensures.answer
    ∙ ap (λ (r : Ruling). answered r.number s (changed (Withdrawn r.place r.space) s)) (rw (c.standing.ensures.spaces ∙ stand o) at c.withdraw_ruling-ruling.ensures)
    ∙ ap (λ (k : ℕ). answered k s (changed (withdrawal s c.args.id) s)) (sym (is_open s (withdraw_tests (standing s) c.args.id) o.usable_is))
