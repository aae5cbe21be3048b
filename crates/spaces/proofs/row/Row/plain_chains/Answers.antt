-- `enclosure::Row::plain_chains` meets its contract.
use Rattle.std.proofs.Common.{rules, ℕ, ◌≡◌, ◌∙◌, ap, ap₂, take, length, get_or, tests, arith, take_all}
use Rattle.std.proofs.lemmas.Iterator.{YieldsList-from_slice}
use Rattle.std.proofs.lemmas.Iterator.Search.{all_from_yields_List}
use Rattle.std.proofs.lemmas.Iterator.Consumers.{YieldsList-from_enumerate}
use Rattle.spaces.specs.Space.{empty_space}
use Rattle.spaces.specs.Enclosure.{above, all_plain, below_of}
use Rattle.spaces.proofs.Laws.Enclosure.{not_taken_at, each_not_taken, plain_below_is}
use Rattle.spaces.proofs.row.Row.plain_chains.Goals as goal

pub returns : goal.returns
unfolding above
returns c =
    let xs = c.args.self.spaces.now in
    let id = c.args.id in
    let first = c.first-all.result in
    let all = first.homes.now.row.spaces.now in
    let ys = take first.most all in
    let same : all ≡ xs = c.first-all.ensures.all ∙ c.of-homes.ensures ∙ c.of.ensures in
    let whole : ys ≡ xs = ap₂ take c.first-all.ensures.so_many same ∙ take_all (length xs) xs (omega arith) in
    all_from_yields_List (not_taken_at id ys all) _ _ c.all.result c.all.ensures.ran (YieldsList-from_enumerate (YieldsList-from_slice xs cc) (search rules)) (λ x b q k. search (rules, tests))
    ∙ each_not_taken id ys all xs 0 (λ i l. ap (λ (p : ℕ). get_or all p empty_space) (omega arith) ∙ ap (λ zs. get_or zs i empty_space) same)
    ∙ plain_below_is id ys xs
    ∙ ap (λ zs. all_plain (below_of id zs xs)) whole
