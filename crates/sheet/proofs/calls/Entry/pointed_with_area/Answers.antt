-- `Entry::pointed_with_area` meets its contract: with no end pointed, no area is looked at.
use Rattle.std.proofs.Common.{ℕ, ◌≡◌, sym, ◌∙◌, Bool, true, false, ◌&&◌, ◌||◌, List}
use Rattle.measure.specs.Ends.{end_areas}
use Rattle.measure.specs.declared.units.Hundredths.{Hundredths}
use Rattle.measure.proofs.Laws.Tests.{as_answered, and_left}
use Rattle.measure.specs.declared.ends.EndAreas.{EndAreas}
use Rattle.sheet.specs.Ends.{is_pointed, has_ends, pointed_area, pointed_with_area}
use Rattle.sheet.specs.declared.calls.Entry.{Entry}
use Rattle.sheet.proofs.Laws.Ends.{unpointed}
use Rattle.sheet.proofs.calls.Entry.pointed_with_area.Goals as goal

-- what is answered: no end is pointed; else, of a U whose areas were found, the fore end decides, else the aft end
module _ (e : Entry) (L : Hundredths) (ds bs : List ℕ) {some : Bool} (pointed : some ≡ (has_ends e && (is_pointed e.fore_end || is_pointed e.aft_end))) where
  abbrev told : Bool
  told = pointed_with_area e (end_areas L e.length ds bs)

  by_none : some ≡ false → false ≡ told
  by_none none = sym (unpointed e (end_areas L e.length ds bs) (as_answered pointed none))

  module _ (one : some ≡ true) {found : EndAreas} (areas : found ≡ end_areas L e.length ds bs) {fore : Bool} (at-fore : fore ≡ pointed_area e.fore_end found.fore) where
    a_U : has_ends e ≡ true
    a_U = and_left (has_ends e) (is_pointed e.fore_end || is_pointed e.aft_end) (as_answered pointed one)

    by_fore : fore ≡ true → true ≡ told
    unfolding pointed_with_area
    by_fore t = rw (a_U, ← areas, ← at-fore, t)

    by_aft : fore ≡ false → {aft : Bool} → aft ≡ pointed_area e.aft_end found.aft → aft ≡ told
    unfolding pointed_with_area
    by_aft f at-aft = rw (a_U, ← areas, ← at-fore, f) at-aft

pub returns-then-not-has_pointed_end : goal.returns-then-not-has_pointed_end
returns-then-not-has_pointed_end c =
    let a = c.args in
    by_none a.self a.whole a.depths.now a.breadths.now c.has_pointed_end.ensures c.if-not-has_pointed_end.true

pub returns-then-pointed_area : goal.returns-then-pointed_area
returns-then-pointed_area c =
    let a = c.args in
    c.if-pointed_area.true
    ∙ by_fore a.self a.whole a.depths.now a.breadths.now c.has_pointed_end.ensures c.if-not-has_pointed_end.false c.end_areas-areas.ensures c.pointed_area.ensures c.if-pointed_area.true

pub returns-else-pointed_area : goal.returns-else-pointed_area
returns-else-pointed_area c =
    let a = c.args in
    by_aft a.self a.whole a.depths.now a.breadths.now c.has_pointed_end.ensures c.if-not-has_pointed_end.false c.end_areas-areas.ensures c.pointed_area.ensures c.if-pointed_area.false c.pointed_area-else-pointed_area.ensures
