-- `words::part_at` meets its contract.
use Rattle.std.proofs.Common.{◌∙◌, ap, length, arith}
use Rattle.std.proofs.lemmas.Slice.{between_to_end}
use Rattle.std.specs.List.{between}
use Rattle.script.specs.Words.{first}
use Rattle.script.proofs.Laws.Parts.{first_part}
use Rattle.script.proofs.words.part_at.Goals as goal

pub returns : goal.returns
returns c =
    let a = c.args in
    c.part.ensures ∙ first_part a.mark (between a.at (length a.text.now) a.text.now) ∙ ap (first a.mark) (between_to_end a.text.now a.at (length a.text.now) (omega arith))
