-- `rules::entry_ruling` meets its contract.
use Rattle.std.proofs.Common.{ℕ, ap₂, ◌∙◌}
use Rattle.standard.proofs.Laws.Judged.{entry_is, visited_around}
use Rattle.standard.proofs.rules.entry_ruling.Goals as goal

pub returns : goal.returns
returns c =
    let a = c.args in
    let xs = a.row.spaces.now in
    let r = c.see-seen.result in
    let is = c.see-seen.ensures in
    let number = c.judged_entry.ensures ∙ entry_is a.tonnage_length xs a.x r.found r.around r.full is.found_is is.around_is is.full_is in
    ap₂ (λ (n v : ℕ). record { number = n; visited = v }) number (visited_around xs a.x r.around is.around_is)
