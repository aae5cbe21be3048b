-- `words::part` meets its contract.
use Rattle.std.proofs.Common.{refl, ap, ◌∙◌, rules, tests, eqb, get_or, List, [], ℕ}
use Rattle.std.specs.List.{slice_split}
use Rattle.std.proofs.lemmas.Iterator.Consumers.{nth_from_yields_List}
use Rattle.std.proofs.lemmas.Iterator.Splits.{YieldsList-from_slice_split}
use Rattle.script.proofs.Laws.Parts.{part_given, parts_split}
use Rattle.script.proofs.words.part.Goals as goal

pub returns : goal.returns
returns c =
    let text = c.args.text.now in
    let mark = c.args.mark in
    let given = nth_from_yields_List c.nth.result c.nth.new.self c.args.k c.nth.ensures.ran
    (YieldsList-from_slice_split _ (λ b. eqb b mark) text c.split.ensures.rest c.split.ensures.done c.split.ensures.closure (λ x r q k. search (rules, tests))) in
    ap (λ (r : _). r.now) c.unwrap_or.ensures
    ∙ part_given c.nth.result _ (slice_split (λ b. eqb b mark) text) c.args.k given refl
    ∙ ap (λ (parts : List (List ℕ)). get_or parts c.args.k []) (parts_split mark text)
