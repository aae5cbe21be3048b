-- `gross::reckon` meets its contract: each figure is the definition's, of the same sums.
use Rattle.std.proofs.Common.{◌≡◌, ◌+◌, ◌-◌, ltb, ap, ap₂, ◌∙◌}
use Rattle.measure.specs.Allowances.{ballast_over}
use Rattle.spaces.specs.Row.{totals_of}
use Rattle.spaces.specs.declared.sums.Totals.{Totals}
use Rattle.standard.specs.Machinery.{engine_room_deduction}
use Rattle.standard.specs.Gross.{gross, deductions, net, deductions_pass, needs_mark}
use Rattle.standard.proofs.gross.reckon.Goals as goal

pub returns : goal.returns
unfolding gross deductions net needs_mark deductions_pass totals_of
returns c =
    let xs = c.args.row.spaces.now in
    let sums : c.total_up-sums.result ≡ totals_of xs = c.total_up-sums.ensures.totals in
    let lengths = ap (λ (t : Totals). t.lengths) sums in
    let whole : c.gross_over-gross.result ≡ gross xs = c.gross_over-gross.ensures.0 ∙ rw (c.saturating_sub-g.ensures, sums) in
    let taken : c.total_up-sums.result.deducted + c.engine_room_deduction.result ≡ deductions xs =
    ap₂ ◌+◌ (ap (λ (t : Totals). t.deducted) sums)
    (c.engine_room_deduction.ensures.0 ∙ ap₂ engine_room_deduction (ap (λ (t : Totals). t.machinery) sums) whole) in
    let left : c.saturating_sub-net.result ≡ net xs = c.saturating_sub-net.ensures ∙ ap₂ ◌-◌ whole taken in
    let marked : c.ballast_over-needs_mark.result ≡ needs_mark xs =
    c.ballast_over-needs_mark.ensures ∙ ap₂ ballast_over (ap (λ (t : Totals). t.ballast) sums) (c.gross_over-with_ballast.ensures.0 ∙ rw (c.saturating_sub.ensures, sums)) in
    rw (lengths, ap₂ ltb whole taken, whole, left, marked)
