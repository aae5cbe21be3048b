-- Levels on a valid sheet: the walk tells the level that a space is at, and 7 is given exactly where the enclosing space is at level 8.
-- Stands on Walk, Valid.
use Rattle.std.proofs.Common.{ℕ, zero, suc, ◌+◌, ◌≤◌, ◌<◌, min, ◌≡◌, sym, ap, ◌∙◌, subst, true, List, Some, ◌↔◌, arith, ltb-true, lt-ltb, length}
use Rattle.measure.specs.declared.units.Hundredths.{Hundredths}
use Rattle.spaces.specs.declared.space.Space.{Space}
use Rattle.spaces.specs.Space.{is_room}
use Rattle.spaces.specs.Enclosure.{enclosing, upward, above, level}
use Rattle.standard.specs.Rules.{too_deep}
use Rattle.standard.specs.Valid.{Valid}
use Rattle.spaces.proofs.Laws.Cases.{by_test, by_option}
use Rattle.spaces.proofs.Laws.Enclosure.{upward_next, upward_none}
use Rattle.spaces_laws.specs.Above.{◌∈◌}
use Rattle.spaces_laws.specs.Levels.{LevelIs, outermost, inside, InsideLevel8}
use Rattle.spaces_laws.proofs.Walk.{enclosing_of_other, enclosing_of_room, enclosing_stands, Closed, level_of_other, level_of_room}
use Rattle.spaces_laws.proofs.Valid.{valid_is_sound, closed}

-- of any spaces, the walk tells the level that a space is at, and 9 for each past 8
pub level_told : (xs : List Space) {x : Space} {n : ℕ} → LevelIs xs x n → level xs x ≡ min n 9
level_told xs {x} (outermost r) = level_of_other xs x r
level_told xs {x} (inside {z = z} {n = n} e l) = omega (arith, level_of_room xs x e, level_told xs l)

-- where each room's enclosing space stands, a walk that ends with levels left has gone through all levels
walked_level : (left : ℕ) (xs : List Space) → ((y : Space) → y ∈ xs → Closed xs y) → (y : Space) → Closed xs y → length (upward left xs y) < left
    → LevelIs xs y (length (upward left xs y) + 1)
walked_level zero xs all y h l = absurd (omega arith)
walked_level (suc left) xs all y h l =
    by_test (is_room y)
    (λ r.
    let z = (h r).0 in
    let e : enclosing xs y ≡ Some z = enclosing_of_room xs y r ∙ (h r).1 in
    let u : length (upward (suc left) xs y) ≡ length (upward left xs z) + 1 = omega (arith, ap length (upward_next left xs y e)) in
    subst (λ (n : ℕ). LevelIs xs y (n + 1)) (sym u) (inside e (walked_level left xs all z (all z (enclosing_stands xs y e)) (omega arith))))
    (λ r.
    let u = ap length (upward_none (suc left) xs y (enclosing_of_other xs y r)) in
    subst (λ (n : ℕ). LevelIs xs y (n + 1)) (sym u) (outermost r))

pub level_exactly : {L : Hundredths} {xs : List Space} → Valid L xs → (y : Space) → y ∈ xs → (n : ℕ) → (level xs y ≡ n) ↔ LevelIs xs y n
unfolding above
level_exactly {L} {xs} v y m n =
    let s = valid_is_sound v in
    let most = (s.member y m).level_at_most in (
      λ e.
          subst (LevelIs xs y) e
          (walked_level 8 xs (λ z k. closed (s.member z k).enclosed) y (closed (s.member y m).enclosed) (omega arith)),
      λ l. omega (arith, level_told xs l),
    )

-- 7, "level would pass 8", of any spaces: the enclosing space is at level 8, or past it
pub too_deep_among_any : (xs : List Space) (x : Space) → (too_deep xs x ≡ true) ↔ ((z : Space) × (enclosing xs x ≡ Some z) × (8 ≤ level xs z))
unfolding above
too_deep_among_any xs x = (
  λ t.
      let deep : 8 < level xs x = ltb-true _ _ t in
      by_option (enclosing xs x)
      (λ e. let l = ap length (upward_none 8 xs x e) in absurd (omega arith))
      (λ z e. (z, e, omega (arith, level_of_room xs x e))),
  λ h. lt-ltb 8 (level xs x) (omega (arith, level_of_room xs x h.1, h.2)),
)

-- and on a valid sheet, where none is past it
pub too_deep_exactly : {L : Hundredths} {xs : List Space} → Valid L xs → (x : Space) → (too_deep xs x ≡ true) ↔ InsideLevel8 xs x
too_deep_exactly {L} {xs} v x = (
  λ t.
      let h = (too_deep_among_any xs x).0 t in
      let m = enclosing_stands xs x h.1 in
      let at_8 : level xs h.0 ≡ 8 = omega (arith, h.2, ((valid_is_sound v).member h.0 m).level_at_most) in
      record { home = h.0; encloses = h.1; home_at_8 = (level_exactly v h.0 m 8).0 at_8 },
  λ r. (too_deep_among_any xs x).1 (r.home, r.encloses, omega (arith, level_told xs r.home_at_8)),
)
