-- The place of a call is that of a form.
use Rattle.std.proofs.Common.{sym, ◌∙◌, ap, Ok}
use Rattle.script.specs.Calls.{figures_forms}
use Rattle.script.proofs.Meaning.{call_told}
use Rattle.figures.proofs.answer.Goals as goal

pub bounds-place-place : goal.bounds-place-place
bounds-place-place g c = call_told figures_forms c.args.line.now c.in-Ok-Some.place (sym c.figures_line.ensures ∙ c.in-Ok-Some.is ∙ ap Ok c.in-Ok-Some.field-0-is)
