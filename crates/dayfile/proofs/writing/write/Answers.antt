-- `write` meets its contract: the bytes, or the number of the refusal, with the sheet handed back.
use Rattle.std.proofs.Common.{Result, ℕ, ap, ◌∙◌}
use Rattle.dayfile.specs.Handed.{handed_back}
use Rattle.dayfile.specs.declared.refusals.Refusal.{Refusal}
use Rattle.dayfile.proofs.Laws.Writing.{handed_with}
use Rattle.dayfile.proofs.writing.write.Goals as goal

pub returns-in-Ok-clause-answer : goal.returns-in-Ok-clause-answer
returns-in-Ok-clause-answer c =
    let a = c.args in ap (λ (r : Result ℕ Refusal). handed_back r a.sheet) c.in-Ok.ensures.answer ∙ handed_with a.sheet a.justified a.form _ a.at

pub returns-in-Err-clause-answer : goal.returns-in-Err-clause-answer
returns-in-Err-clause-answer c =
    let a = c.args in ap (λ (r : Result ℕ Refusal). handed_back r a.sheet) c.in-Err.ensures.answer ∙ handed_with a.sheet a.justified a.form _ a.at
