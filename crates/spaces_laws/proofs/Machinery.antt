-- The engine room deduction (T-06 of document 02): it is the one that `Deduction` says and no other, just one of its three classes
-- applies, and what it is at exactly 13% and from 20% on. Stands on Tests.
use Rattle.std.proofs.Common.{ℕ, ◌*◌, ◌≤◌, ◌<◌, max, ◌≡◌, sym, ◌∙◌, subst, true, ◌↔◌, inl, inr, ⊎_elim, arith, leb-true, leb-false, ltb-true, ltb-false, le-leb, lt-ltb, le-ltb, leb, ltb}
use borrow.Author.Tests.{lt-leb}
use Rattle.measure.specs.Rounding.{nearest}
use Rattle.measure_laws.proofs.Rounding.{nearest_is, nearest_only}
use Rattle.standard.specs.Machinery.{up_to13, from20, thirty_two_percent, seven_quarters, engine_room_deduction}
use Rattle.spaces.proofs.Laws.Cases.{by_test}
use Rattle.standard.proofs.Laws.Machinery.{in_first_class, in_second_class, in_third_class}
use Rattle.spaces_laws.specs.Machinery.{Greater, Deduction, up_to_13, between_13_and_20, from_20, OneClass, only_first, only_second, only_third}
use Rattle.spaces_laws.proofs.Tests.{and_fails_of}

-- ---- the three classes: M is compared with 13% of gross, and only past that with 20%

by_class : {P : Type 0} (m gross : ℕ) → (100 * m ≤ 13 * gross → P) → (13 * gross < 100 * m → 100 * m < 20 * gross → P)
    → (13 * gross < 100 * m → 20 * gross ≤ 100 * m → P) → P
by_class m gross first second third =
    by_test (leb (100 * m) (13 * gross))
    (λ low. first (leb-true _ _ low))
    (λ over.
    let over-13 = leb-false (100 * m) (13 * gross) over in
    by_test (ltb (100 * m) (20 * gross)) (λ under. second over-13 (ltb-true _ _ under)) (λ high. third over-13 (ltb-false _ _ high)))

-- they are disjoint and cover everything
pub one_class : (m gross : ℕ) → OneClass m gross
one_class m gross =
    let thirteen = 13 * gross in
    let twenty = 20 * gross in
    let hundred = 100 * m in
    by_class m gross
    (λ low. let no = le-ltb thirteen hundred low in only_first (le-leb hundred thirteen low) (rw no) (rw no))
    (λ over under.
    let yes = lt-ltb thirteen hundred over in
    only_second (lt-leb hundred thirteen over) (rw (yes, lt-ltb hundred twenty under)) (rw (yes, lt-leb twenty hundred under)))
    (λ over high.
    let yes = lt-ltb thirteen hundred over in
    only_third (lt-leb hundred thirteen over) (rw (yes, le-ltb hundred twenty high)) (rw (yes, le-leb twenty hundred high)))

-- ---- the deduction is the one that `Deduction` says, and no other is

greater_is : (a b : ℕ) → Greater a b (max a b)
greater_is a b =
    record {
      not_under_first = omega arith;
      not_under_second = omega arith;
      one_of_them = by_test (leb a b) (λ t. inr (omega (arith, leb-true a b t))) (λ f. inl (omega (arith, leb-false a b f)));
    }

greater_only : {a b n : ℕ} → Greater a b n → max a b ≡ n
greater_only g = ⊎_elim (λ first. omega arith) (λ second. omega arith) g.one_of_them

deduction_is : (m gross : ℕ) → Deduction m gross (engine_room_deduction m gross)
deduction_is m gross =
    let of-gross = nearest_is (32 * gross) 100 (omega arith) in
    by_class m gross
    (λ low. rw (in_first_class m gross low) (up_to_13 low (nearest_is (32 * m) 13 (omega arith))))
    (λ over under. rw (in_second_class m gross over under) (between_13_and_20 over under of-gross))
    (λ over high.
    rw (in_third_class m gross over high)
    (from_20 over high of-gross (nearest_is (7 * m) 4 (omega arith)) (greater_is (thirty_two_percent gross) (seven_quarters m))))

deduction_only : {m gross n : ℕ} → Deduction m gross n → engine_room_deduction m gross ≡ n
deduction_only {m} {gross} {n} (up_to_13 low near) = in_first_class m gross low ∙ nearest_only (32 * m) 13 n (omega arith) near
deduction_only {m} {gross} {n} (between_13_and_20 over under near) =
    in_second_class m gross over under ∙ nearest_only (32 * gross) 100 n (omega arith) near
deduction_only {m} {gross} {n} (from_20 {a} {b} over high of-gross of-m greater) =
    omega (
      arith,
      in_third_class m gross over high,
      nearest_only (32 * gross) 100 a (omega arith) of-gross,
      nearest_only (7 * m) 4 b (omega arith) of-m,
      greater_only greater,
    )

pub deduction_exactly : (m gross n : ℕ) → (engine_room_deduction m gross ≡ n) ↔ Deduction m gross n
deduction_exactly m gross n = (λ e. subst (Deduction m gross) e (deduction_is m gross), deduction_only)

-- no machinery, no deduction
pub none_for_none : (gross : ℕ) → engine_room_deduction 0 gross ≡ 0
unfolding nearest
none_for_none gross = in_first_class 0 gross (omega arith)

-- ---- at the ends of the classes

-- at exactly 13% the class is the first, and the deduction that of the second too: 32 M / 13 is then 32 gross / 100
pub at_13 : (m gross : ℕ) → 100 * m ≡ 13 * gross → (up_to13 m gross ≡ true) × (engine_room_deduction m gross ≡ thirty_two_percent gross)
unfolding nearest
at_13 m gross e = (le-leb (100 * m) (13 * gross) (omega arith), omega (arith, in_first_class m gross (omega arith)))

-- where there is any gross "at 20% or more" is one test, since M is over 13% of it then
pub from_20_is : {gross : ℕ} → 0 < gross → (m : ℕ) → from20 m gross ≡ leb (20 * gross) (100 * m)
from_20_is {gross} some m =
    by_test (leb (20 * gross) (100 * m))
    (λ t. let high = leb-true (20 * gross) (100 * m) t in rw (lt-ltb (13 * gross) (100 * m) (omega arith), t))
    (λ f. and_fails_of (ltb (13 * gross) (100 * m)) _ (λ _. f) ∙ sym f)

-- at exactly 20% the class is the third
pub at_20 : {gross : ℕ} → 0 < gross → (m : ℕ) → 100 * m ≡ 20 * gross → from20 m gross ≡ true
at_20 {gross} some m e = from_20_is some m ∙ le-leb (20 * gross) (100 * m) (omega arith)

-- from 20% on 1.75 M is never under 32% of gross, which is at most 1.6 M then, and so it is always the deduction
pub from_20_on : (m gross : ℕ) → 20 * gross ≤ 100 * m
    → (thirty_two_percent gross ≤ seven_quarters m) × (engine_room_deduction m gross ≡ seven_quarters m)
unfolding nearest
from_20_on m gross high = (
  omega arith,
  by_class m gross
      (λ low. omega (arith, in_first_class m gross low))
      (λ over under. absurd (omega arith))
      (λ over high'. omega (arith, in_third_class m gross over high')),
)
