-- The classes of a length, step parts and multipliers: each definition gives what its declarative statement says, and nothing else does.
use Rattle.std.proofs.Common.{ℕ, ◌+◌, ◌%◌, ◌≤◌, ◌≡◌, refl, sym, Bool, true, false, cond, arith, leb-true, leb-false, ltb-true, ltb-false, eqb-true, le-leb, lt-ltb, le-ltb, eq-eqb, ne_eqb, leb, ltb, eqb}
use borrow.Author.Tests.{eqb-false, lt-leb}
use Rattle.measure.specs.Parts.{table_parts, ByTable, up_to_50, over_50_to_100, over_100_to_150, over_150_to_200, over_200_to_250, over_250, step_parts, ByStep, of_20_or_under, over_20_under_40, of_40_or_over}
use Rattle.measure.specs.Multipliers.{multiplier, Counts, first_once, last_once, even_four_times, other_odd_twice}
use Rattle.measure.specs.declared.units.Hundredths.{Hundredths}

-- what holds of each choice, under the test's outcome, holds of the one taken
decided : (P : ℕ → Type 0) (b : Bool) {x y : ℕ} → (b ≡ true → P x) → (b ≡ false → P y) → P (cond b x y)
decided P true p q = p refl
decided P false p q = q refl

-- ---- the table

pub table_is : (l : Hundredths) → ByTable l (table_parts l)
unfolding table_parts
table_is l =
    decided (ByTable l) (leb l.0 5000) (λ t. up_to_50 (leb-true _ _ t)) (λ f.
    let over-50 = leb-false _ _ f in
    decided (ByTable l) (leb l.0 10000) (λ t. over_50_to_100 over-50 (leb-true _ _ t)) (λ f.
    let over-100 = leb-false _ _ f in
    decided (ByTable l) (leb l.0 15000) (λ t. over_100_to_150 over-100 (leb-true _ _ t)) (λ f.
    let over-150 = leb-false _ _ f in
    decided (ByTable l) (leb l.0 20000) (λ t. over_150_to_200 over-150 (leb-true _ _ t)) (λ f.
    let over-200 = leb-false _ _ f in
    decided (ByTable l) (leb l.0 25000) (λ t. over_200_to_250 over-200 (leb-true _ _ t)) (λ f.
    over_250 (leb-false _ _ f))))))

pub table_only : (l : Hundredths) (n : ℕ) → ByTable l n → n ≡ table_parts l
unfolding table_parts
table_only l _ (up_to_50 h) = rw (le-leb l.0 5000 h)
table_only l _ (over_50_to_100 g h) = rw (lt-leb l.0 5000 g, le-leb l.0 10000 h)
table_only l _ (over_100_to_150 g h) = rw (lt-leb l.0 5000 (omega arith), lt-leb l.0 10000 g, le-leb l.0 15000 h)
table_only l _ (over_150_to_200 g h) =
    rw (lt-leb l.0 5000 (omega arith), lt-leb l.0 10000 (omega arith), lt-leb l.0 15000 g, le-leb l.0 20000 h)
table_only l _ (over_200_to_250 g h) =
    rw (lt-leb l.0 5000 (omega arith), lt-leb l.0 10000 (omega arith), lt-leb l.0 15000 (omega arith), lt-leb l.0 20000 g, le-leb l.0 25000 h)
table_only l _ (over_250 g) =
    rw (lt-leb l.0 5000 (omega arith), lt-leb l.0 10000 (omega arith), lt-leb l.0 15000 (omega arith), lt-leb l.0 20000 (omega arith), lt-leb l.0 25000 g)

-- ---- a part made by a step

pub step_is : (l : Hundredths) → ByStep l (step_parts l)
unfolding step_parts
step_is l =
    decided (ByStep l) (leb l.0 2000) (λ t. of_20_or_under (leb-true _ _ t)) (λ f.
    decided (ByStep l) (ltb l.0 4000) (λ t. over_20_under_40 (leb-false _ _ f) (ltb-true _ _ t)) (λ g.
    of_40_or_over (ltb-false _ _ g) (table_is l)))

pub step_only : (l : Hundredths) (n : ℕ) → ByStep l n → n ≡ step_parts l
unfolding step_parts
step_only l _ (of_20_or_under h) = rw (le-leb l.0 2000 h)
step_only l _ (over_20_under_40 g h) = rw (lt-leb l.0 2000 g, lt-ltb l.0 4000 h)
step_only l n (of_40_or_over h r) = rw (lt-leb l.0 2000 (omega arith), le-ltb l.0 4000 h) (table_only l n r)

-- ---- the multipliers

pub multiplier_is : (n number : ℕ) → 1 ≤ number → number ≤ n + 1 → Counts n number (multiplier n number)
unfolding multiplier
multiplier_is n number low high =
    decided (Counts n number) (eqb number 1) (λ t. first_once (eqb-true _ _ t)) (λ f.
    let after_first : number ≡ 1 → ⊥ = eqb-false _ _ f in
    decided (Counts n number) (eqb number (n + 1)) (λ t. last_once (eqb-true _ _ t)) (λ g.
    let before_last : number ≡ n + 1 → ⊥ = eqb-false _ _ g in
    decided (Counts n number) (eqb (number % 2) 0) (λ t. even_four_times (omega arith) (omega arith) (eqb-true _ _ t)) (λ h.
    let odd : number % 2 ≡ 0 → ⊥ = eqb-false _ _ h in
    other_odd_twice (omega arith) (omega arith) (omega arith))))

pub multiplier_only : (n number k : ℕ) → Counts n number k → k ≡ multiplier n number
unfolding multiplier
multiplier_only n number _ (first_once e) = rw (eq-eqb number 1 e)
multiplier_only n number _ (last_once e) =
    rw (eq-eqb number (n + 1) e) (sym (either_way (eqb number 1) 1))
  where
    either_way : (b : Bool) (k : ℕ) → cond b k k ≡ k
    either_way true k = refl
    either_way false k = refl
multiplier_only n number _ (even_four_times a b e) = rw (ne_eqb number 1 (λ z. omega arith), ne_eqb number (n + 1) (λ z. omega arith), eq-eqb (number % 2) 0 e)
multiplier_only n number _ (other_odd_twice a b e) =
    rw (ne_eqb number 1 (λ z. omega arith), ne_eqb number (n + 1) (λ z. omega arith), ne_eqb (number % 2) 0 (λ z. omega arith))
