-- `calls::place_by` meets its contract.
use Rattle.std.proofs.Common.{◌∙◌, rules, tests, eqb}
use Rattle.std.proofs.lemmas.Iterator.Search.{position_from_yields_List}
use Rattle.std.proofs.lemmas.Iterator.Splits.{YieldsList-from_slice_split}
use Rattle.script.specs.Calls.{is_form}
use Rattle.script.proofs.Laws.Calls.{place_found}
use Rattle.script.proofs.calls.place_by.Goals as goal

pub returns : goal.returns
returns c =
    position_from_yields_List (is_form c.args.counted c.args.line.now) _ _ c.position.result c.position.ensures.ran
    (YieldsList-from_slice_split _ (λ b. eqb b 10) c.args.forms.now c.split.ensures.rest c.split.ensures.done c.split.ensures.closure (λ x b q k. search (rules, tests)))
    (λ x b q k. search (rules, tests))
    ∙ place_found c.args.counted c.args.line.now c.args.forms.now
