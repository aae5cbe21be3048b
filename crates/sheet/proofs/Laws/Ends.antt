-- Laws of the ends that an entry says, and of what is judged by them.
use Rattle.std.proofs.Common.{ℕ, ◌≡◌, refl, ap, Bool, true, false, ◌&&◌, ◌||◌, List, eqb-true, eqb}
use Rattle.measure.specs.Offsets.{measured}
use Rattle.measure.specs.Ends.{ends_of, end_areas}
use Rattle.measure.proofs.Laws.Ends.{ends_accepted}
use Rattle.measure.specs.declared.units.Hundredths.{Hundredths}
use Rattle.measure.specs.declared.ends.EndAreas.{EndAreas}
use Rattle.spaces.proofs.Laws.Cases.{by_test}
use Rattle.sheet.specs.Ends.{is_pointed, has_ends, pointed_with_area}
use Rattle.sheet.specs.declared.calls.Entry.{Entry}

-- where no end is said to be pointed, no area is refused
pub unpointed : (e : Entry) (a : EndAreas) → (has_ends e && (is_pointed e.fore_end || is_pointed e.aft_end)) ≡ false → pointed_with_area e a ≡ false
unfolding pointed_with_area
unpointed e a = by (has_ends e) (is_pointed e.fore_end) (is_pointed e.aft_end) _ _
  where
    by : (u p q x y : Bool) → (u && (p || q)) ≡ false → (u && ((p && x) || (q && y))) ≡ false
    by false p q x y n = refl
    by true true q x y n = cc
    by true false true x y n = cc
    by true false false x y n = refl

-- of accepted offsets it is the areas of the first and the last section that decide
pub by_its_ends : (e : Entry) (L : Hundredths) (hs bs : List ℕ) → (measured e.kind L e.length hs bs).number ≡ 0
    → pointed_with_area e (end_areas L e.length hs bs) ≡ pointed_with_area e (ends_of hs bs)
unfolding pointed_with_area
by_its_ends e L hs bs z =
    by_test (eqb e.kind 1)
    (λ t. ap (pointed_with_area e) (ends_accepted L e.length hs bs (rw (eqb-true e.kind 1 t) at z)))
    (λ f. rw f)
