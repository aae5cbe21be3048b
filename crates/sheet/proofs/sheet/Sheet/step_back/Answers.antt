-- `Sheet::step_back` meets its contract: the tests of 1 and 12, and the change taken back.
use Rattle.std.proofs.Common.{◌≡◌, sym, ap, ◌∙◌, ℕ, ◌+◌, ◌-◌, not, eqb, [], ◌∷◌, arith, eq-eqb, ne_eqb}
use Rattle.std.proofs.lemmas.Result.{err_from_is_err_and}
use Rattle.measure.specs.Refusals.{first_of}
use Rattle.sheet.specs.Sheet.{usable}
use Rattle.sheet.specs.Changes.{taken_back}
use Rattle.sheet.specs.Calls.{answered, change_at, recounted, undone}
use Rattle.sheet.specs.declared.changes.Change.{Change}
use Rattle.sheet.specs.declared.sheet.Sheet.{Sheet}
use Rattle.sheet.proofs.Laws.Sheet.{fitted_redoable}
use Rattle.sheet.proofs.sheet.Sheet.step_back.Goals as goal

abbrev next : Sheet → Sheet
next s = recounted (s.undoable - 1) (s.redoable + 1) (taken_back (change_at s (s.undoable - 1)) s)

pub returns-in_err-check_open : goal.returns-in_err-check_open
unfolding undone
returns-in_err-check_open c =
    let p = err_from_is_err_and c.from_residual.result c.from_residual.ensures.1 in
    let off = c.in_err-check_open.ensures in
    rw (p.1, p.2, off.0, off.1)

pub returns-then-self-eq0 : goal.returns-then-self-eq0
unfolding undone
returns-then-self-eq0 c =
    let o = c.in_ok-check_open.ensures in
    rw (o.usable_is, eq-eqb _ 0 c.if-self-eq0.true)

pub overflow_add-self : goal.overflow_add-self
overflow_add-self c =
    let s = c.args.self.now in
    let o = c.in_ok-check_open.ensures in
    rw (c.take_back.ensures, fitted_redoable) (omega (arith, o.redoable))

pub returns : goal.returns
unfolding undone
returns c =
    let s = c.args.self.now in
    let o = c.in_ok-check_open.ensures in
    let tests_pass : first_of ((not (usable s), 1) ∷ (eqb s.undoable 0, 12) ∷ []) ≡ 0 = rw (o.usable_is, ne_eqb s.undoable 0 c.if-self-eq0.false) in
    ap (λ (t : Sheet). record { number = 0; sheet = recounted (s.undoable - 1) (t.redoable + 1) t }) (c.take_back.ensures ∙ ap (λ (d : Change). taken_back d s) c.from.ensures)
    ∙ ap (λ (k : ℕ). record { number = 0; sheet = recounted (s.undoable - 1) (k + 1) (taken_back (change_at s (s.undoable - 1)) s) }) (fitted_redoable _ s)
    ∙ ap (λ (k : ℕ). answered k s (next s)) (sym tests_pass)
