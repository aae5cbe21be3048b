-- `tanks::tank_ruling` meets its contract: the number of the tests of 4 to 10, then 29.
use Rattle.std.proofs.Common.{ℕ, Bool, not, [], ◌∷◌, eqb, ap, ap₂, ◌∙◌}
use Rattle.measure.specs.Refusals.{first_of}
use Rattle.standard.specs.Tanks.{without_m}
use Rattle.standard.specs.Handed.{judged_number}
use Rattle.standard.proofs.Laws.Judged.{visited_around}
use Rattle.standard.proofs.Laws.Tanks.{number_is}
use Rattle.standard.proofs.tanks.tank_ruling.Goals as goal

pub returns : goal.returns
returns c =
    let a = c.args in
    let r = c.see-seen.result in
    let is = c.see-seen.ensures in
    let others = c.judged-number.ensures
    ∙ ap₂ (λ (p q : Bool). judged_number a.x r.found r.around p q r.full) c.tank_misplaced-misplaced.ensures c.tank_overfull-overfull.ensures in
    let number = c.judged_by_m.ensures
    ∙ ap (λ (k : ℕ). first_of ((not (eqb k 0), k) ∷ (without_m r.found, 29) ∷ [])) others
    ∙ number_is a.tonnage_length a.row.spaces.now a.x a.fore r is in
    ap₂ (λ (k v : ℕ). record { number = k; visited = v }) number (visited_around a.row.spaces.now a.x r.around is.around_is)
