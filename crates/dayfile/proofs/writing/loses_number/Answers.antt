-- `loses_number` meets its contract: one deck after the other is looked at.
use Rattle.std.proofs.Common.{◌∙◌, sym, rules, tests}
use Rattle.std.proofs.lemmas.Iterator.{YieldsList-from_slice}
use Rattle.std.proofs.lemmas.Iterator.Search.{any_from_yields_List}
use Rattle.dayfile.specs.Forms.{lost}
use Rattle.dayfile.proofs.Laws.Writing.{any_deck}
use Rattle.dayfile.proofs.writing.loses_number.Goals as goal

pub returns-else-lost : goal.returns-else-lost
returns-else-lost c =
    let a = c.args in
    rw (sym c.lost.ensures ∙ c.if-lost.false)
    (any_from_yields_List (λ x. lost a.form.deck x.deck) c.any.new.self _ c.any.result c.any.ensures.ran (YieldsList-from_slice a.spaces.now (cc)) (λ x b q k. search (rules, tests))
    ∙ any_deck a.form a.spaces.now)
