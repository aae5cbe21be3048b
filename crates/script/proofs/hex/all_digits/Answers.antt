-- `hex::all_digits` meets its contract.
use Rattle.std.proofs.Common.{◌∙◌, rules, tests}
use Rattle.std.proofs.lemmas.Iterator.{YieldsList-from_slice}
use Rattle.std.proofs.lemmas.Iterator.Search.{all_from_yields_List}
use Rattle.std.specs.Prelude.{true}
use Rattle.script.specs.Words.{is_digit}
use Rattle.script.proofs.Laws.Numbers.{digits_tested}
use Rattle.script.proofs.hex.all_digits.Goals as goal

pub returns : goal.returns
returns c =
    all_from_yields_List (is_digit true) _ _ c.all.result c.all.ensures.ran (YieldsList-from_slice {s = c.iter.result} c.args.word.now c.iter.ensures.rest) (λ x b q k. search (rules, tests))
    ∙ digits_tested true c.args.word.now
