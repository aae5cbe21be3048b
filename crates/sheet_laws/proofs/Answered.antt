-- What is answered first of all: 1 of a sheet that isn't usable, and of a usable one 2 where what is said is outside its range; each with
-- the sheet as it came.
use Rattle.std.proofs.Common.{ℕ, ◌≡◌, sym, ap, ◌∙◌, Bool, true, false, not, List, ◌∷◌}
use Rattle.measure.specs.Refusals.{first_of}
use Rattle.sheet.specs.Sheet.{usable}
use Rattle.sheet.specs.Calls.{answered}
use Rattle.sheet.specs.declared.sheet.Sheet.{Sheet}
use Rattle.sheet.specs.declared.calls.Changed.{Changed}
use Rattle.sheet.proofs.Laws.Calls.{applies, is_open}

-- the number 1 of a sheet that isn't usable
pub not_open_lem : (s : Sheet) (tests : List (Bool × ℕ)) → usable s ≡ false → first_of ((not (usable s), 1) ∷ tests) ≡ 1
not_open_lem s tests e = applies (not (usable s)) 1 tests (ap not e)

-- of an open sheet 2, where what is said is outside its range
outside : (s : Sheet) (out : Bool) (tests : List (Bool × ℕ)) → usable s ≡ true → out ≡ true → first_of ((not (usable s), 1) ∷ (out, 2) ∷ tests) ≡ 2
outside s out tests on e = is_open s ((out, 2) ∷ tests) on ∙ applies out 2 tests e

-- and what is answered with them
pub answered_1 : (s next : Sheet) (tests : List (Bool × ℕ)) → usable s ≡ false
    → ◌≡◌ {A = Changed} (record { number = 1; sheet = s }) (answered (first_of ((not (usable s), 1) ∷ tests)) s next)
answered_1 s next tests off = ap (λ (k : ℕ). answered k s next) (sym (not_open_lem s tests off))

pub answered_2 : (s next : Sheet) (out : Bool) (tests : List (Bool × ℕ)) → usable s ≡ true → out ≡ true
    → ◌≡◌ {A = Changed} (record { number = 2; sheet = s }) (answered (first_of ((not (usable s), 1) ∷ (out, 2) ∷ tests)) s next)
answered_2 s next out tests on e = ap (λ (k : ℕ). answered k s next) (sym (outside s out tests on e))
