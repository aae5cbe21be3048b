-- The table of standings says what `MayTake` says of all its places, and of no other; so no standing is over 4, and a space is U, B or S, a
-- plain H, or R. Stands on Lists.
use Rattle.std.proofs.Common.{ℕ, zero, suc, ◌+◌, ◌≤◌, ◌≡◌, refl, Bool, true, false, ◌||◌, [], ◌∷◌, arith, eqb-true, ltb-true, ltb-false, eqb, ltb, get_or}
use Rattle.spaces.specs.declared.space.Space.{Space}
use Rattle.spaces.specs.Space.{is_hull, is_hatchway}
use Rattle.standard.specs.Standings.{greatest_standing, may_take}
use Rattle.spaces.specs.Row.{only}
use Rattle.spaces.proofs.Laws.Cases.{by_test, not_both}
use Rattle.standard.proofs.Laws.Standings.{standing_outside}
use Rattle.spaces_laws.specs.Standings.{MayTake, plain_U, plain_B, plain_S, plain_H, plain_R, exempt_B, exempt_S, exempt_R, ballast_R, deducted_R, machinery_R}
use Rattle.spaces_laws.proofs.Lists.{only_at_most}

-- what holds of each standing that a row of the table allows holds of any standing that it allows
by_row : (P : ℕ → Type 0) (plain exempt ballast deducted machinery : Bool) → (plain ≡ true → P 0) → (exempt ≡ true → P 1) → (ballast ≡ true → P 2)
    → (deducted ≡ true → P 3) → (machinery ≡ true → P 4) → (standing : ℕ)
    → get_or (plain ∷ exempt ∷ ballast ∷ deducted ∷ machinery ∷ []) standing false ≡ true → P standing
by_row P _ _ _ _ _ p e b d m zero t = p t
by_row P _ _ _ _ _ p e b d m (suc zero) t = e t
by_row P _ _ _ _ _ p e b d m (suc (suc zero)) t = b t
by_row P _ _ _ _ _ p e b d m (suc (suc (suc zero))) t = d t
by_row P _ _ _ _ _ p e b d m (suc (suc (suc (suc zero)))) t = m t
by_row P _ _ _ _ _ p e b d m (suc (suc (suc (suc (suc s))))) t = not_both t refl

-- a place that the table doesn't allow
no : {P : Type 0} → false ≡ true → P
no t = not_both t refl

pub may_take_is : (kind standing : ℕ) → may_take kind standing ≡ true → MayTake kind standing
unfolding may_take
may_take_is zero s t = no t
may_take_is (suc zero) s t = by_row (MayTake 1) true false false false false (λ _. plain_U) no no no no s t
may_take_is (suc (suc zero)) s t = by_row (MayTake 2) true true false false false (λ _. plain_B) (λ _. exempt_B) no no no s t
may_take_is (suc (suc (suc zero))) s t = by_row (MayTake 3) true true false false false (λ _. plain_S) (λ _. exempt_S) no no no s t
may_take_is (suc (suc (suc (suc zero)))) s t = by_row (MayTake 4) true false false false false (λ _. plain_H) no no no no s t
may_take_is (suc (suc (suc (suc (suc zero))))) s t =
    by_row (MayTake 5) true true true true true (λ _. plain_R) (λ _. exempt_R) (λ _. ballast_R) (λ _. deducted_R) (λ _. machinery_R) s t
may_take_is (suc (suc (suc (suc (suc (suc k)))))) s t = no t

-- "U and H take only 0"
pub under_deck_plain : (standing : ℕ) → may_take 1 standing ≡ true → eqb standing 0 ≡ true
unfolding may_take
under_deck_plain s t = by_row (λ (n : ℕ). eqb n 0 ≡ true) true false false false false (λ _. refl) no no no no s t

pub may_take_only : {kind standing : ℕ} → MayTake kind standing → may_take kind standing ≡ true
unfolding may_take
may_take_only plain_U = refl
may_take_only plain_B = refl
may_take_only plain_S = refl
may_take_only plain_H = refl
may_take_only plain_R = refl
may_take_only exempt_B = refl
may_take_only exempt_S = refl
may_take_only exempt_R = refl
may_take_only ballast_R = refl
may_take_only deducted_R = refl
may_take_only machinery_R = refl

-- no kind has a standing over 4: the table has no column for it
pub standing_at_most : (kind standing : ℕ) → may_take kind standing ≡ true → standing ≤ greatest_standing
standing_at_most kind standing t =
    by_test (ltb greatest_standing standing) (λ over. not_both t (standing_outside kind standing (ltb-true _ _ over))) (λ within. ltb-false _ _ within)

-- ---- which kinds there are for a sheet's sums

pub data Kinded (kind standing : ℕ) : Type 0 where
  hull : (eqb kind 1 || eqb kind 2 || eqb kind 3) ≡ true → Kinded kind standing
  hatchway : eqb kind 4 ≡ true → eqb standing 0 ≡ true → Kinded kind standing
  room : eqb kind 5 ≡ true → Kinded kind standing

pub kinded : {kind standing : ℕ} → MayTake kind standing → Kinded kind standing
kinded plain_U = hull refl
kinded plain_B = hull refl
kinded plain_S = hull refl
kinded plain_H = hatchway refl refl
kinded plain_R = room refl
kinded exempt_B = hull refl
kinded exempt_S = hull refl
kinded exempt_R = room refl
kinded ballast_R = room refl
kinded deducted_R = room refl
kinded machinery_R = room refl

-- no space is both hull and hatchway
pub hull_or_hatchway : (x : Space) (n : ℕ) → only (is_hull x) n + only (is_hatchway x) n ≤ n
hull_or_hatchway x n =
    by_test (is_hatchway x)
    (λ t. let k : x.kind ≡ 4 = eqb-true _ _ t in rw k (omega arith))
    (λ f. rw f (omega (arith, only_at_most (is_hull x) n)))
