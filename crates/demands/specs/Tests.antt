-- What it means that a number is given by a list of numbered tests ("Numbers of refusal").
use Rattle.std.specs.Prelude.{ℕ, ◌<◌, ◌≡◌, ◌↔◌, Bool, true, List, ◌∷◌}
use Rattle.measure.specs.Refusals.{Refuse, Accept}

-- "in that order": refused with n exactly when test n applies and none before it, accepted exactly when none applies
pub record FirstGiven (tests : List (Bool × ℕ)) (number : ℕ) : Type 0 where
  pub refused_exactly : (n : ℕ) → 0 < n → (number ≡ n) ↔ Refuse tests n
  pub accepted_exactly : (number ≡ 0) ↔ Accept tests

-- the condition of number n holds
pub data Applies : List (Bool × ℕ) → ℕ → Type 0 where
  first : {n : ℕ} {tests : List (Bool × ℕ)} → Applies ((true, n) ∷ tests) n
  further : {test : Bool × ℕ} {tests : List (Bool × ℕ)} {n : ℕ} → Applies tests n → Applies (test ∷ tests) n

-- "The lowest number that applies": refused with n exactly when condition n holds and no lower one does, accepted exactly when none does
pub record LowestGiven (tests : List (Bool × ℕ)) (number : ℕ) : Type 0 where
  pub refused_exactly : (n : ℕ) → 0 < n → (number ≡ n) ↔ (Applies tests n × ((k : ℕ) → k < n → Applies tests k → ⊥))
  pub accepted_exactly : (number ≡ 0) ↔ ((k : ℕ) → Applies tests k → ⊥)
