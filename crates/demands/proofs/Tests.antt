-- "The lowest number that applies is given", as one law over every list of numbered tests. Stands on measure_laws, Refusals.
use Rattle.std.proofs.Common.{ℕ, ◌<◌, ◌≤◌, ◌≡◌, refl, ⊎_elim, ◌↔◌, Bool, true, false, not, ◌&&◌, ◌||◌, List, [], ◌∷◌, ◌++◌, arith, eqb-true, ltb-true, ltb-false, eqb, ltb}
use borrow.Author.Tests.{not-true, eqb-false}
use Rattle.measure.specs.Refusals.{first_of, Refuse, here, later, Accept}
use Rattle.measure_laws.proofs.Refusals.{refused_with, accepted, judged}
use Rattle.spaces.proofs.Laws.Cases.{by_test}
use Rattle.measure.proofs.Laws.Tests.{and_left, and_right}
use Rattle.measure.proofs.Laws.Refusals.{Numbered}
use Rattle.spaces_laws.proofs.Refusals.{none_applies}
use Rattle.demands.specs.Tests.{FirstGiven, Applies, first, further, LowestGiven}

-- the numbers of the tests ascend, each over the one before it
abbrev pub AscendFrom : ℕ → List (Bool × ℕ) → Type 0
AscendFrom below [] = Unit {0}
AscendFrom below (test ∷ tests) = (below < test.1) × AscendFrom test.1 tests

-- ---- in their order

pub first_given : (tests : List (Bool × ℕ)) → Numbered tests → FirstGiven tests (first_of tests)
first_given tests numbered =
    record {
      refused_exactly = λ n some. (
        λ e. ⊎_elim (λ (a : Accept tests). absurd (omega (arith, accepted a))) (λ (r : Refuse tests (first_of tests)). rw e at r) (judged tests),
        λ r. refused_with r,
      );
      accepted_exactly = (none_applies tests numbered, λ a. accepted a);
    }

-- ---- the lowest

pub refusal_applies : {tests : List (Bool × ℕ)} {n : ℕ} → Refuse tests n → Applies tests n
refusal_applies here = first
refusal_applies (later r) = further (refusal_applies r)

-- a number that is given applies
given_applies : (tests : List (Bool × ℕ)) → 0 < first_of tests → Applies tests (first_of tests)
given_applies tests some =
    ⊎_elim (λ (a : Accept tests). absurd (omega (arith, accepted a))) (λ (r : Refuse tests (first_of tests)). refusal_applies r) (judged tests)

-- and is at most any that applies, where the numbers ascend
at_most_any : {tests : List (Bool × ℕ)} {k : ℕ} (below : ℕ) → AscendFrom below tests → Applies tests k → (below < first_of tests) × (first_of tests ≤ k)
at_most_any below ascend first = omega arith
at_most_any below ascend (further {test = test} {tests = tests} a) =
    let rest = at_most_any test.1 ascend.1 a in
    by_test test.0 (λ t. rw t (omega arith)) (λ f. rw f (omega arith))

pub lowest_given : (tests : List (Bool × ℕ)) → AscendFrom 0 tests → LowestGiven tests (first_of tests)
lowest_given tests ascend =
    record {
      refused_exactly = λ n some. (
        λ e. (rw e at (given_applies tests (omega arith)), λ k lower a. omega (arith, at_most_any 0 ascend a)),
        λ h. exactly n h.0 h.1,
      );
      accepted_exactly = (
        λ e k a. omega (arith, at_most_any 0 ascend a),
        λ none. by_test (eqb (first_of tests) 0) (eqb-true _ _) (λ f. absurd (none (first_of tests) (given_applies tests (positive (eqb-false _ _ f))))),
      );
    }
  where
    positive : (first_of tests ≡ 0 → ⊥) → 0 < first_of tests
    positive f = omega arith

    exactly : (n : ℕ) → Applies tests n → ((k : ℕ) → k < n → Applies tests k → ⊥) → first_of tests ≡ n
    exactly n a none-lower =
        let bounds = at_most_any 0 ascend a in
        by_test (eqb (first_of tests) n) (eqb-true _ _) (λ f. absurd (none-lower (first_of tests) (less (eqb-false _ _ f)) (given_applies tests bounds.0)))
      where
        less : (first_of tests ≡ n → ⊥) → first_of tests < n
        less f = omega (arith, at_most_any 0 ascend a)

-- so where a condition holds, its number is given or a lower one
pub given_at_most : {tests : List (Bool × ℕ)} {number k : ℕ} → LowestGiven tests number → Applies tests k → (0 < number) × (number ≤ k)
given_at_most {tests} {number} {k} given a = (some, at_most)
  where
    some : 0 < number
    some = by_test (eqb number 0) (λ t. absurd (given.accepted_exactly.0 (eqb-true number 0 t) k a)) (λ f. omega (arith, eqb-false number 0 f))

    at_most : number ≤ k
    at_most =
        by_test (ltb k number)
        (λ t. absurd (((given.refused_exactly number some).0 refl).1 k (ltb-true k number t) a))
        (λ f. ltb-false k number f)

-- ---- one number

-- the first test applies
pub applies_first : {b : Bool} {n : ℕ} {tests : List (Bool × ℕ)} → b ≡ true → Applies ((b, n) ∷ tests) n
applies_first t = rw t first

-- no test has the number n
abbrev pub without : ℕ → List (Bool × ℕ) → Bool
without n [] = true
without n (test ∷ tests) = not (eqb test.1 n) && without n tests

another : (n k : ℕ) (rest : Bool) → (not (eqb k n) && rest) ≡ true → k ≡ n → ⊥
another n k rest e = eqb-false k n (not-true _ (and_left (not (eqb k n)) rest e))

-- so it is never given
pub never_given : {n : ℕ} {tests : List (Bool × ℕ)} → without n tests ≡ true → Applies tests n → ⊥
never_given {n = n} none (first {tests = tests}) = another n n (without n tests) none refl
never_given {n = n} none (further {test = test} {tests = tests} a) = never_given (and_right (not (eqb test.1 n)) (without n tests) none) a

-- and given by one test behind them exactly where that applies
pub applies_last : (tests : List (Bool × ℕ)) (b : Bool) (n : ℕ) → without n tests ≡ true → Applies (tests ++ ((b, n) ∷ [])) n ↔ (b ≡ true)
applies_last [] b n none = (here, applies_first)
  where
    here : {b : Bool} {m k : ℕ} → Applies ((b, m) ∷ []) k → b ≡ true
    here first = refl
    here (further x) = elim x [ ]
applies_last (test ∷ tests) b n none =
    let others = applies_last tests b n (and_right (not (eqb test.1 n)) (without n tests) none) in
    (λ a. others.0 (behind (another n test.1 (without n tests) none) a), λ t. further (others.1 t))
  where
    behind : {test : Bool × ℕ} {tests : List (Bool × ℕ)} → (test.1 ≡ n → ⊥) → Applies (test ∷ tests) n → Applies tests n
    behind other first = absurd (other refl)
    behind other (further a) = a

-- ---- lists inside lists

-- two tests with one number are one
pub either : (a b : Bool) (n : ℕ) (rest : List (Bool × ℕ)) → first_of ((a, n) ∷ (b, n) ∷ rest) ≡ first_of ((a || b, n) ∷ rest)
either true b n rest = refl
either false b n rest = refl
