-- `Sheet::take_tank_in` meets its contract: the tests of 1 to 10 and 29, the entry made and noted, and the enclosing spaces visited.
use Rattle.std.proofs.Common.{◌≡◌, sym, ap, ap₂, ◌∙◌, Bool, true, cond, not, ◌||◌, List, ◌∷◌, ℕ, eqb}
use Rattle.measure.specs.Refusals.{first_of}
use Rattle.measure.specs.Tanks.{tank_in_range}
use Rattle.measure.specs.declared.offsets.Measured.{Measured}
use Rattle.measure.proofs.Laws.Tanks.{judged_by_number}
use Rattle.standard.specs.Rules.{entry_ruling}
use Rattle.standard.specs.Tanks.{under_deck_with, tank_tests, tank_number}
use Rattle.standard.specs.declared.rules.EntryRuling.{EntryRuling}
use Rattle.spaces.specs.declared.space.Space.{Space}
use Rattle.sheet.specs.Sheet.{standing, usable}
use Rattle.sheet.specs.Calls.{answered, changed, out_of_range, visited_for}
use Rattle.sheet.specs.Tanks.{tank_of, tank_measured, tank_in, sections_wrong, tank_entered, tank_entering}
use Rattle.sheet.specs.declared.changes.Change.TheVariants.{Entered}
use Rattle.sheet.specs.declared.sheet.Sheet.{Sheet}
use Rattle.sheet.specs.declared.tanks.Tank.{Tank}
use Rattle.sheet.proofs.Laws.Calls.{is_open, ruling_visits}
use Rattle.sheet.proofs.Laws.Sheet.{stand}
use Rattle.sheet.proofs.sheet.Sheet.take_tank_in.Goals.{After-judged-number}
use Rattle.sheet.proofs.sheet.Sheet.take_tank_in.Goals as goal

module _ (s : Sheet) (k : Tank) (ds bs : List ℕ) where
  abbrev x : Space
  x = tank_in s.length (standing s) k ds bs

  -- the tests behind those of measuring, and behind that of 1
  abbrev from_4 : List (Bool × ℕ)
  from_4 = tank_tests s.length (standing s) x k.fore

  abbrev from_2 : List (Bool × ℕ)
  from_2 =
      (out_of_range k.standing k.deck, 2)
      ∷ (not (tank_in_range k.length k.fore ds bs), 2)
      ∷ (sections_wrong s.length (standing s) k ds bs, 3)
      ∷ from_4

  -- what is answered beside a change
  answering : {n v : ℕ} {after : Sheet} → record { number = n; sheet = after } ≡ tank_entered s k ds bs → v ≡ visited_for s x
      → record { number = n; visited = v; sheet = after } ≡ tank_entering s k ds bs
  unfolding tank_entering
  answering change walked = simp (sym change, walked)

  -- on an open sheet: measuring answered r, y is the record that is made of it, and the tank is judged
  record Judging (r : Measured) (y : Space) (ruling : EntryRuling) (n : ℕ) : Type 0 where
    on : usable s ≡ true
    is : r ≡ tank_measured s.length (standing s) k ds bs
    made_of : y ≡ tank_of k r.tonnage
    ruled : ruling ≡ entry_ruling (tank_number s.length (standing s) y k.fore) (standing s) y
    first : n ≡ cond (out_of_range k.standing k.deck) 2 (cond (eqb r.number 2 || eqb r.number 3) r.number ruling.number)

  module _ {r : Measured} {y : Space} {ruling : EntryRuling} {n : ℕ} (j : Judging r y ruling n) where
    same : y ≡ x
    same = j.made_of ∙ ap (λ (q : Measured). tank_of k q.tonnage) j.is

    -- 2 and 3 are those of measuring
    number_is : n ≡ first_of ((not (usable s), 1) ∷ from_2)
    unfolding tank_number
    number_is =
        let u = under_deck_with k.within (standing s) in
        j.first
        ∙ rw (j.ruled, same, j.is)
        (ap (λ (i : ℕ). cond (out_of_range k.standing k.deck) 2 i) (judged_by_number s.length u.length u.m k.length k.fore ds bs from_4))
        ∙ sym (is_open s from_2 j.on)

    change_is : answered n s (changed (Entered y) s) ≡ tank_entered s k ds bs
    unfolding tank_entered
    change_is = ap₂ (λ (i : ℕ) (z : Space). answered i s (changed (Entered z) s)) number_is same

    visited_is : ruling.visited ≡ visited_for s x
    visited_is = ruling_visits s j.on j.ruled same

pub returns-in-Err : goal.returns-in-Err
unfolding tank_entered tank_entering
returns-in-Err c = let off = c.in-Err.ensures in rw (off.0, off.1)

judging : (c : After-judged-number) → let a = c.args in
    Judging a.self.now a.tank a.depths.now a.breadths.now c.measured-measured.result c.space-x.result c.tank_ruling-ruling.result c.judged-number.result
judging c = let o = c.in_default.ensures in record {
  on = o.usable_is;
  is = rw (c.standing.ensures.spaces ∙ stand o) at c.measured-measured.ensures;
  made_of = c.space-x.ensures;
  ruled = rw (c.standing-2.ensures.spaces ∙ stand o) at c.tank_ruling-ruling.ensures;
  first = c.judged-number.ensures;
}

pub returns : goal.returns
returns c =
    let a = c.args in
    let j = judging (goal.at.returns c).After-judged-number in
    answering a.self.now a.tank a.depths.now a.breadths.now
    (c.change.ensures.answer ∙ change_is a.self.now a.tank a.depths.now a.breadths.now j)
    (visited_is a.self.now a.tank a.depths.now a.breadths.now j)
