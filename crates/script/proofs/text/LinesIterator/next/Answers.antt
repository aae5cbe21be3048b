-- `text::Lines` gives the lines of its text: the first is cut off, and the others are left.
use Rattle.std.proofs.Common.{rules, tests, ap, length}
use Rattle.script.proofs.Laws.Lines.{line_cut}
use Rattle.script.proofs.text.LinesIterator.next.Goals as goal

pub returns-clause-steps : goal.returns-clause-steps
returns-clause-steps c =
    line_cut c.args.self.now.0.now c.part_at-line.result.now c.min.result (search (rules, tests)) c.part_at-line.ensures c.min.ensures

pub returns-clause-goes : goal.returns-clause-goes
returns-clause-goes c =
    let shorter = ap length (line_cut c.args.self.now.0.now c.part_at-line.result.now c.min.result (search (rules, tests)) c.part_at-line.ensures c.min.ensures) in
    search rules
