-- "The lowest number that applies is given": `first_of` is n exactly where test n applies and none before it.
use Rattle.std.proofs.Common.{◌≡◌, refl, ◌⊎◌, inl, inr, ⊎_elim, Bool, true, false, cond, List, [], ◌∷◌, ℕ}
use Rattle.measure.specs.Refusals.{first_of, Refuse, here, later, Accept, none, next}

pub refused_with : {tests : List (Bool × ℕ)} {n : ℕ} → Refuse tests n → first_of tests ≡ n
refused_with here = refl
refused_with (later r) = refused_with r

pub accepted : {tests : List (Bool × ℕ)} → Accept tests → first_of tests ≡ 0
accepted none = refl
accepted (next r) = accepted r

-- and any tests accept, or refuse with the number given
pub judged : (tests : List (Bool × ℕ)) → Accept tests ⊎ Refuse tests (first_of tests)
judged [] = inl none
judged (test ∷ tests) = first test.0 test.1 (judged tests)
  where
    first : (applies : Bool) (n : ℕ) → Accept tests ⊎ Refuse tests (first_of tests)
        → Accept ((applies, n) ∷ tests) ⊎ Refuse ((applies, n) ∷ tests) (cond applies n (first_of tests))
    first true n rest = inr here
    first false n rest = ⊎_elim (λ a. inl (next a)) (λ r. inr (later r)) rest
