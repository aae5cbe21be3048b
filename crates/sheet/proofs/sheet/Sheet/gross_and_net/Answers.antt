-- `Sheet::gross_and_net` meets its contract: the tests of 1, 2, 13, 14 and 21, and the figures reckoned.
use Rattle.std.proofs.Common.{◌≡◌, sym, ap, ◌∙◌, ℕ, Bool, true, false, ◌&&◌, eqb, ◌⊎◌, inl, inr, lt-ltb, le-ltb, ne_eqb, eq-eqb}
use Rattle.std.proofs.lemmas.Result.{err_from_is_err_and}
use Rattle.standard.specs.declared.gross.Reckoning.{Reckoning}
use Rattle.sheet.specs.Calls.{reported}
use Rattle.sheet.proofs.Laws.Sheet.{stand}
use Rattle.sheet.proofs.sheet.Sheet.gross_and_net.Goals as goal

pub returns-in_err-check_open : goal.returns-in_err-check_open
unfolding reported
returns-in_err-check_open c =
    let p = err_from_is_err_and c.from_residual.result c.from_residual.ensures.1 in
    let off = c.in_err-check_open.ensures in
    rw (p.1, p.2, off.0, off.1)

pub returns-then-justified-gt1 : goal.returns-then-justified-gt1
unfolding reported
returns-then-justified-gt1 c =
    let o = c.in_ok-check_open.ensures in
    sym (simp (o.usable_is, lt-ltb 1 _ c.if-justified-gt1.true))

pub returns-then-r-from : goal.returns-then-r-from
unfolding reported
returns-then-r-from c =
    let o = c.in_ok-check_open.ensures in
    let r = rw (c.standing.ensures.spaces ∙ stand o) at c.reckon-r.ensures in
    let short = ne_eqb _ _ (λ same. c.if-r-from.true (ap (λ (q : Reckoning). q.lengths) r ∙ same ∙ sym c.from.ensures)) in
    sym (simp (o.usable_is, le-ltb 1 _ c.if-justified-gt1.false, short))

pub returns-then-justified-eq0 : goal.returns-then-justified-eq0
unfolding reported
returns-then-justified-eq0 c =
    let o = c.in_ok-check_open.ensures in
    let r = rw (c.standing.ensures.spaces ∙ stand o) at c.reckon-r.ensures in
    let full = eq-eqb _ _ (sym (ap (λ (q : Reckoning). q.lengths) r) ∙ c.if-r-from.false ∙ c.from.ensures) in
    let needed = sym (ap (λ (q : Reckoning). q.needs_mark) r) ∙ c.if-r.true in
    sym (simp (o.usable_is, le-ltb 1 _ c.if-justified-gt1.false, full, needed, eq-eqb _ 0 c.if-justified-eq0.true))

-- the ballast needs no mark, or has it
justly : {needs_mark : Bool} {j : ℕ} → ((needs_mark ≡ true) × (j ≡ 0 → ⊥)) ⊎ (needs_mark ≡ false) → (needs_mark && eqb j 0) ≡ false
justly {j = j} (inl (e, some)) = rw e (ne_eqb j 0 some)
justly (inr e) = rw e

pub returns-then-r-2 : goal.returns-then-r-2
unfolding reported
returns-then-r-2 c =
    let o = c.in_ok-check_open.ensures in
    let r = rw (c.standing.ensures.spaces ∙ stand o) at c.reckon-r.ensures in
    let full = eq-eqb _ _ (sym (ap (λ (q : Reckoning). q.lengths) r) ∙ c.if-r-from.false ∙ c.from.ensures) in
    let just = sym (ap (λ (q : Reckoning). q.needs_mark && eqb c.args.justified 0) r) ∙ justly c.else-r.either in
    let pass = sym (ap (λ (q : Reckoning). q.deductions_pass) r) ∙ c.if-r-2.true in
    sym (simp (o.usable_is, le-ltb 1 _ c.if-justified-gt1.false, full, just, pass))

pub returns : goal.returns
unfolding reported
returns c =
    let o = c.in_ok-check_open.ensures in
    let r = rw (c.standing.ensures.spaces ∙ stand o) at c.reckon-r.ensures in
    let full = eq-eqb _ _ (sym (ap (λ (q : Reckoning). q.lengths) r) ∙ c.if-r-from.false ∙ c.from.ensures) in
    let just = sym (ap (λ (q : Reckoning). q.needs_mark && eqb c.args.justified 0) r) ∙ justly c.else-r.either in
    let pass = sym (ap (λ (q : Reckoning). q.deductions_pass) r) ∙ c.if-r-2.false in
    rw (o.usable_is, le-ltb 1 _ c.if-justified-gt1.false, full, just, pass)
    (ap (λ (q : Reckoning). record { number = 0; gross = q.gross; net = q.net }) r)
