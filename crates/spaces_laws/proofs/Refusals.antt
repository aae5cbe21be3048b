-- What the number given by `first_of` says of each test: 0, that none applies; any other, that none before its own does. Stands on
-- measure_laws, Refusals.
use Rattle.std.proofs.Common.{ℕ, ◌<◌, ◌≡◌, refl, ⊎_elim, Bool, true, false, List, [], ◌∷◌, arith}
use Rattle.measure.specs.Refusals.{first_of, Refuse, here, later, Accept, next}
use Rattle.measure.proofs.Laws.Refusals.{Numbered}
use Rattle.measure_laws.proofs.Refusals.{accepted, judged}

numbered_refusal : {tests : List (Bool × ℕ)} {n : ℕ} → Numbered tests → Refuse tests n → 0 < n
numbered_refusal numbered here = numbered.0
numbered_refusal numbered (later r) = numbered_refusal numbered.1 r

pub none_applies : (tests : List (Bool × ℕ)) → Numbered tests → first_of tests ≡ 0 → Accept tests
none_applies tests numbered e =
    ⊎_elim (λ (a : Accept tests). a) (λ (r : Refuse tests (first_of tests)). absurd (omega (arith, numbered_refusal numbered r))) (judged tests)

pub one_applies : (tests : List (Bool × ℕ)) (n : ℕ) → 0 < n → first_of tests ≡ n → Refuse tests n
one_applies tests n some e =
    ⊎_elim (λ (a : Accept tests). absurd (omega (arith, accepted a))) (λ (r : Refuse tests (first_of tests)). rw e at r) (judged tests)

-- ---- test by test

pub apart : {test : Bool} {n : ℕ} {tests : List (Bool × ℕ)} → Accept ((test, n) ∷ tests) → (test ≡ false) × Accept tests
apart (next a) = (refl, a)

pub together : {test : Bool} {n : ℕ} {tests : List (Bool × ℕ)} → test ≡ false → Accept tests → Accept ((test, n) ∷ tests)
together f a = rw f (next a)

-- a refusal isn't by a test that doesn't apply, or has another number: so it is by a later one
pub refused_later : {test : Bool} {k n : ℕ} {tests : List (Bool × ℕ)} → Refuse ((test, k) ∷ tests) n → (test ≡ true → k ≡ n → ⊥) → (test ≡ false) × Refuse tests n
refused_later here other = absurd (other refl refl)
refused_later (later r) other = (refl, r)

pub no_refusal : {n : ℕ} → Refuse [] n → ⊥
no_refusal r = elim r [ ]
