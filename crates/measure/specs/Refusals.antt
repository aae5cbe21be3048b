-- "The lowest number that applies is given" ("Numbers of refusal").
use Rattle.std.specs.Prelude.{ℕ, List, [], ◌∷◌, Bool, true, false, cond}

-- the number of the first test that applies, of tests in the table's order; 0, accepted, where none does
abbrev pub first_of : List (Bool × ℕ) → ℕ
first_of [] = 0
first_of (test ∷ tests) = cond test.0 test.1 (first_of tests)

-- The same as a statement: the tests refuse with n where test n applies and none before it, and accept where none applies. One or
-- the other is so, and `first_of` gives the number (measure_laws, Refusals).
pub data Refuse : List (Bool × ℕ) → ℕ → Type 0 where
  here : {n : ℕ} {tests : List (Bool × ℕ)} → Refuse ((true, n) ∷ tests) n
  later : {k n : ℕ} {tests : List (Bool × ℕ)} → Refuse tests n → Refuse ((false, k) ∷ tests) n

pub data Accept : List (Bool × ℕ) → Type 0 where
  none : Accept []
  next : {k : ℕ} {tests : List (Bool × ℕ)} → Accept tests → Accept ((false, k) ∷ tests)
