-- `in_ranges` meets its contract: each number is judged with its range.
use Rattle.std.proofs.Common.{◌∙◌, rules, tests}
use Rattle.std.proofs.lemmas.Iterator.{YieldsList-from_slice, YieldsList-from_zip}
use Rattle.std.proofs.lemmas.Iterator.Search.{all_from_yields_List}
use Rattle.dayfile.proofs.Laws.Fields.{within, each_within}
use Rattle.dayfile.proofs.fields.in_ranges.Goals as goal

pub returns : goal.returns
returns c =
    let a = c.args in
    all_from_yields_List within c.all.new.self _ c.all.result c.all.ensures.ran
    (YieldsList-from_zip (YieldsList-from_slice a.numbers.now (cc)) (YieldsList-from_zip (YieldsList-from_slice a.least.now (cc)) (YieldsList-from_slice a.greatest.now (cc))))
    (λ x b q k. search (rules, tests))
    ∙ each_within a.least.now a.greatest.now a.numbers.now c.requires.0 c.requires.1
