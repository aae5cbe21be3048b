-- `judged` meets its contract: its report first, then its figures against the trailer's.
use Rattle.std.proofs.Common.{sym, ap, ◌∙◌, Err}
use Rattle.sheet.specs.declared.calls.Figures.{Figures}
use Rattle.sheet.proofs.Laws.Report.{given_figures}
use Rattle.dayfile.specs.declared.refusals.Refusal.{Refusal}
use Rattle.dayfile.proofs.Laws.Reading.{unreported, other_gross, other_net, same_figures}
use Rattle.dayfile.proofs.reading.judged.Goals.{then-figures-trailer-via-then-figures-trailer, then-figures-trailer-via-else-figures-trailer+then-figures-trailer-2}
use Rattle.dayfile.proofs.reading.judged.Goals as goal

pub returns-then-figures-ne0 : goal.returns-then-figures-ne0
returns-then-figures-ne0 c =
    let a = c.args in
    let e = ap (λ (r : Figures). r.number) c.figures-figures.ensures in
    ap (λ (r : Refusal). Err r) c.numbered.ensures ∙ unreported a.sheet a.trailer a.start _ (sym e) c.if-figures-ne0.true

-- 18, where either figure is another
pub returns-then-figures-trailer : goal.returns-then-figures-trailer
returns-then-figures-trailer c =
    let a = c.args in
    let f = given_figures a.sheet a.trailer.justified _ c.figures-figures.ensures c.if-figures-ne0.false in
    let refused = ap (λ (r : Refusal). Err r) c.numbered-then-figures-trailer.ensures in
    elim c.then-figures-trailer.branch [
      | then-figures-trailer-via-then-figures-trailer w ↦
          refused ∙ other_gross a.sheet a.trailer a.start f.number_is (λ same. w.if-figures-trailer.true (f.gross_is ∙ same))
      | then-figures-trailer-via-else-figures-trailer+then-figures-trailer-2 w ↦
          refused
          ∙ other_net a.sheet a.trailer a.start f.number_is (sym f.gross_is ∙ w.if-figures-trailer.false) (λ same. w.if-figures-trailer-2.true (f.net_is ∙ same))
    ]

pub returns : goal.returns
returns c =
    let a = c.args in
    let f = given_figures a.sheet a.trailer.justified _ c.figures-figures.ensures c.if-figures-ne0.false in
    same_figures a.sheet a.trailer a.start f.number_is (sym f.gross_is ∙ c.if-figures-trailer.false) (sym f.net_is ∙ c.if-figures-trailer-2.false)
