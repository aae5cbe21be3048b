-- The table of standings: nothing outside its five rows and five columns.
use Rattle.std.proofs.Common.{◌≡◌, refl, ap, ◌∙◌, false, ℕ, zero, suc, ◌-◌, ◌<◌, arith, get_or, []}
use Rattle.standard.specs.Standings.{standings, may_take}

no_row : (k standing : ℕ) → may_take (suc (suc (suc (suc (suc (suc k)))))) standing ≡ false
unfolding may_take
no_row k standing = refl

no_column : (kind s : ℕ) → may_take kind (suc (suc (suc (suc (suc s))))) ≡ false
unfolding may_take
no_column zero s = refl
no_column (suc zero) s = refl
no_column (suc (suc zero)) s = refl
no_column (suc (suc (suc zero))) s = refl
no_column (suc (suc (suc (suc zero)))) s = refl
no_column (suc (suc (suc (suc (suc zero))))) s = refl
no_column (suc (suc (suc (suc (suc (suc k)))))) s = refl

pub kind_below : (kind standing : ℕ) → kind < 1 → may_take kind standing ≡ false
unfolding may_take
kind_below zero standing h = refl
kind_below (suc kind) standing h = absurd (omega arith)

pub kind_outside : (kind standing : ℕ) → 5 < kind → may_take kind standing ≡ false
kind_outside kind standing h =
    let e : kind ≡ suc (suc (suc (suc (suc (suc (kind - 6)))))) = omega arith in
    ap (λ (k : ℕ). may_take k standing) e ∙ no_row (kind - 6) standing

pub standing_outside : (kind standing : ℕ) → 4 < standing → may_take kind standing ≡ false
standing_outside kind standing h =
    let e : standing ≡ suc (suc (suc (suc (suc (standing - 5))))) = omega arith in
    ap (may_take kind) e ∙ no_column kind (standing - 5)

pub may_take_in : (kind standing : ℕ) → 0 < kind → may_take kind standing ≡ get_or (get_or standings (kind - 1) []) standing false
unfolding may_take
may_take_in zero standing h = absurd (omega arith)
may_take_in (suc kind) standing h = let e : kind ≡ suc kind - 1 = omega arith in ap (λ (k : ℕ). get_or (get_or standings k []) standing false) e

-- all that the table says
pub ruleset table = (may_take_in, kind_below, kind_outside, standing_outside)
