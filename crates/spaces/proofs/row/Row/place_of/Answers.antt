-- `row::Row::place_of` meets its contract.
use Rattle.std.proofs.Common.{rules, ◌≡◌, ◌∙◌, ap, length, unwrap_or, position, tests}
use Rattle.std.proofs.lemmas.Iterator.{YieldsList-from_slice}
use Rattle.std.proofs.lemmas.Iterator.Search.{position_from_yields_List}
use Rattle.spaces.proofs.Laws.Words.{has_id, position_is}
use Rattle.spaces.proofs.row.Row.place_of.Goals as goal

pub returns : goal.returns
returns c =
    let xs = c.args.self.spaces.now in
    let found : c.position-found.result ≡ position (has_id c.args.id) xs =
    position_from_yields_List (has_id c.args.id) _ _ c.position-found.result c.position-found.ensures.ran (YieldsList-from_slice xs cc) (λ x b q k. search (rules, tests)) in
    c.unwrap_or.ensures ∙ ap (λ p. unwrap_or p (length xs)) found ∙ position_is c.args.id xs
