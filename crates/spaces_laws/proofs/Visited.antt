-- The enclosing spaces visited (T-07): `visited` counts them, both ways; 8 of them exactly where 7 applies; none exactly where none is
-- named; and by the level of the named space. Stands on Walk, Valid, Levels.
use Rattle.std.proofs.Common.{ℕ, zero, suc, ◌+◌, ◌<◌, min, ◌≡◌, sym, ap, subst, true, List, None, Some, ◌↔◌, arith, ltb-true, lt-ltb, length}
use Rattle.measure.specs.declared.units.Hundredths.{Hundredths}
use Rattle.spaces.specs.declared.space.Space.{Space}
use Rattle.spaces.specs.Enclosure.{enclosing, upward, above, level, visited}
use Rattle.standard.specs.Rules.{too_deep}
use Rattle.standard.specs.Valid.{Valid}
use Rattle.spaces.proofs.Laws.Cases.{by_option}
use Rattle.spaces.proofs.Laws.Enclosure.{upward_next, upward_none, visited_at_most}
use Rattle.spaces_laws.specs.Above.{◌∈◌}
use Rattle.spaces_laws.specs.Levels.{LevelIs, VisitedIs, not_enclosed, one_more}
use Rattle.spaces_laws.proofs.Walk.{level_of_room}
use Rattle.spaces_laws.proofs.Valid.{valid_is_sound}
use Rattle.spaces_laws.proofs.Levels.{level_exactly}

-- a walk counts them as far as it has levels left
counted : (xs : List Space) (left : ℕ) {x : Space} {n : ℕ} → VisitedIs xs x n → length (upward left xs x) ≡ min n left
counted xs left {x} (not_enclosed e) = omega (arith, ap length (upward_none left xs x e))
counted xs zero (one_more e v) = omega arith
counted xs (suc left) {x} (one_more e v) = omega (arith, ap length (upward_next left xs x e), counted xs left v)

-- and one that ended with levels left has counted all
all_counted : (left : ℕ) (xs : List Space) (x : Space) → length (upward left xs x) < left → VisitedIs xs x (length (upward left xs x))
all_counted zero xs x h = absurd (omega arith)
all_counted (suc left) xs x h =
    by_option (enclosing xs x)
    (λ e. subst (VisitedIs xs x) (sym (ap length (upward_none (suc left) xs x e))) (not_enclosed e))
    (λ z e.
    let u : length (upward (suc left) xs x) ≡ length (upward left xs z) + 1 = omega (arith, ap length (upward_next left xs x e)) in
    subst (VisitedIs xs x) (sym u) (one_more e (all_counted left xs z (omega arith))))

-- of any spaces, and 8 for each past 8
pub visited_told : (xs : List Space) {x : Space} {n : ℕ} → VisitedIs xs x n → visited xs x ≡ min n 8
unfolding above
visited_told xs v = counted xs 8 v

pub visited_exactly : (xs : List Space) (x : Space) (n : ℕ) → n < 8 → (visited xs x ≡ n) ↔ VisitedIs xs x n
unfolding above
visited_exactly xs x n few = (
  λ e. subst (VisitedIs xs x) e (all_counted 8 xs x (omega arith)),
  λ v. omega (arith, visited_told xs v),
)

-- 8 of them, exactly where 7 applies: "level would pass 8"
pub eight_exactly : (xs : List Space) (x : Space) → (visited xs x ≡ 8) ↔ (too_deep xs x ≡ true)
eight_exactly xs x = (
  λ e. lt-ltb 8 (level xs x) (omega arith),
  λ t. omega (arith, visited_at_most xs x, ltb-true 8 (level xs x) t),
)

-- one more than the named space has, so by its level
pub visited_by_level : (xs : List Space) (x : Space) {z : Space} → enclosing xs x ≡ Some z → visited xs x ≡ min (level xs z) 8
visited_by_level xs x e = omega (arith, level_of_room xs x e)

-- none of them, exactly where no standing space is named
pub none_exactly : (xs : List Space) (x : Space) → (visited xs x ≡ 0) ↔ (enclosing xs x ≡ None)
unfolding above
none_exactly xs x = (
  λ z. by_option (enclosing xs x) (λ e. e) (λ y e. absurd (omega (arith, visited_by_level xs x e))),
  λ e. ap length (upward_none 8 xs x e),
)

-- on a valid sheet no level passes 8, so that cut off there it is the level still
pub level_within_8 : {L : Hundredths} {xs : List Space} → Valid L xs → (z : Space) → z ∈ xs → (n : ℕ) → (min (level xs z) 8 ≡ n) ↔ LevelIs xs z n
level_within_8 {L} {xs} v z stands n =
    let same : min (level xs z) 8 ≡ level xs z = omega (arith, ((valid_is_sound v).member z stands).level_at_most) in
    rw same (level_exactly v z stands n)

-- it hangs on the enclosing space alone
pub visited_alike : (xs : List Space) (x y : Space) → enclosing xs x ≡ enclosing xs y → visited xs x ≡ visited xs y
unfolding above
visited_alike xs x y same = rw same
