-- What an entry says of the ends of a U (T-02 of document 02): "A U now says of each end whether it is inner (at a step), upright or
-- pointed, and a pointed end must have area 0." Nothing of it is recorded.
use Rattle.std.specs.Prelude.{ℕ, ◌<◌, ◌≡◌, Bool, not, ◌&&◌, ◌||◌, eqb, leb}
use Rattle.measure.specs.declared.ends.EndAreas.{EndAreas}
use Rattle.sheet.specs.declared.calls.Entry.{Entry}

-- "1 inner (at a step), 2 upright, 3 pointed"
abbrev pub is_end : ℕ → Bool
is_end end = leb 1 end && leb end 3

abbrev pub is_pointed : ℕ → Bool
is_pointed end = eqb end 3

-- "Looked at only of a U": kind 1
abbrev pub has_ends : Entry → Bool
has_ends e = eqb e.kind 1

-- 2 where not: "any other number there is 2"
unfoldable pub ends_fit : Entry → Bool
ends_fit e = not (has_ends e) || (is_end e.fore_end && is_end e.aft_end)

-- an end that is said to be pointed and has area
abbrev pub pointed_area : (end area : ℕ) → Bool
pointed_area end area = is_pointed end && not (eqb area 0)

-- 19: "where a pointed end has area", by the areas at the ends
unfoldable pub pointed_with_area : Entry → EndAreas → Bool
pointed_with_area e a = has_ends e && (pointed_area e.fore_end a.fore || pointed_area e.aft_end a.aft)

-- ---- The same as statements: `ends_fit` and `pointed_with_area` say these, both ways (sheet_laws, Ends).

pub data End : ℕ → Type 0 where
  inner : End 1
  upright : End 2
  pointed : End 3

abbrev pub EndsSaid : Entry → Type 0
EndsSaid e = e.kind ≡ 1 → End e.fore_end × End e.aft_end

pub data PointedWithArea (e : Entry) (a : EndAreas) : Type 0 where
  fore : e.kind ≡ 1 → e.fore_end ≡ 3 → 0 < a.fore → PointedWithArea e a
  aft : e.kind ≡ 1 → e.aft_end ≡ 3 → 0 < a.aft → PointedWithArea e a
