-- `row::Row::find` meets its contract.
use Rattle.std.proofs.Common.{rules, ◌∙◌, tests}
use Rattle.std.proofs.lemmas.Iterator.{YieldsList-from_slice}
use Rattle.std.proofs.lemmas.Iterator.Search.{find_from_yields_List}
use Rattle.spaces.proofs.Laws.Words.{has_id, found_is}
use Rattle.spaces.proofs.row.Row.find.Goals as goal

pub returns : goal.returns
returns c =
    c.copied.ensures
    ∙ find_from_yields_List (has_id c.args.id) _ _ c.find.result c.find.ensures.ran (YieldsList-from_slice c.args.self.spaces.now cc) (λ x b q k. search (rules, tests))
    ∙ found_is c.args.id c.args.self.spaces.now
