-- Laws of numbered tests: lists of them inside others, and one behind a number that others gave.
use Rattle.std.proofs.Common.{ℕ, ◌<◌, ◌≡◌, refl, Bool, true, false, cond, not, List, [], ◌∷◌, ◌++◌, arith, ne_eqb, eqb}
use Rattle.measure.specs.Refusals.{first_of}

-- no number of the list is 0, the number of an accepted call
abbrev pub Numbered : List (Bool × ℕ) → Type 0
Numbered [] = Unit {0}
Numbered (test ∷ tests) = (0 < test.1) × Numbered tests

-- a test that gives the number of other tests, where one of them applies, is those tests
pub spliced : (tests rest : List (Bool × ℕ)) → Numbered tests → first_of ((not (eqb (first_of tests) 0), first_of tests) ∷ rest) ≡ first_of (tests ++ rest)
spliced [] rest numbered = refl
spliced (test ∷ tests) rest numbered = by test.0 (spliced tests rest numbered.1)
  where
    by : (applies : Bool) → first_of ((not (eqb (first_of tests) 0), first_of tests) ∷ rest) ≡ first_of (tests ++ rest)
        → (let n = cond applies test.1 (first_of tests) in first_of ((not (eqb n 0), n) ∷ rest)) ≡ cond applies test.1 (first_of (tests ++ rest))
    by true others = rw (ne_eqb test.1 0 (λ z. omega arith))
    by false others = others
