-- `Sheet::report` meets its contract: its figures, with the sheet.
use Rattle.std.proofs.Common.{ap}
use Rattle.sheet.specs.Calls.{reported}
use Rattle.sheet.specs.declared.calls.Figures.{Figures}
use Rattle.sheet.proofs.sheet.Sheet.report.Goals as goal

pub returns : goal.returns
unfolding reported
returns c =
    ap (λ (f : Figures). record { number = f.number; gross = f.gross; net = f.net; sheet = c.args.self }) c.figures-figures.ensures
