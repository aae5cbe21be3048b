-- Laws of the multipliers and sums: one value taken off the front, and bounds.
use Rattle.std.proofs.Common.{◌≡◌, refl, ap, ◌∙◌, List, ℕ, suc, ◌+◌, ◌*◌, ◌%◌, ◌^◌, ◌≤◌, ◌<◌, zero-le, add-one, zero-add, add-zero, mul-le-mul_left, add-mul, suc-mul, arith, lit≤, eqb, length, drop, get_or}
use Rattle.measure.specs.Parts.{EvenParts, p2, p4, p6, p8, p10, p12, p14, p16}
use Rattle.measure.specs.Multipliers.{multiplier, weighted_from, weighted, total}
use Rattle.measure.specs.Zones.{zone_end}
use Rattle.measure.specs.Handed.{AllAtMost, none, more}
use Rattle.measure.proofs.Laws.Lists.{drop_step}
use Rattle.measure.proofs.Laws.Products.{at_most}
use Rattle.measure.proofs.Laws.Parts.{chosen}
use Rattle.std.specs.List.{sum}
use Rattle.std.proofs.lemmas.List.Recursion.{is_sum_by}

pub weighted_step : (n i : ℕ) (xs : List ℕ) → i < length xs
    → weighted_from n (i + 1) (drop i xs) ≡ multiplier n (i + 1) * get_or xs i 0 + weighted_from n (i + 1 + 1) (drop (i + 1) xs)
weighted_step n i xs h = ap (weighted_from n (i + 1)) (drop_step xs i 0 h)

-- the plain sum is std's
pub total_sum : (xs : List ℕ) → total xs ≡ sum xs
total_sum = is_sum_by total (λ (x : ℕ). x) refl (λ _ _. refl)

pub multiplier_le : (n number : ℕ) → multiplier n number ≤ 4
unfolding multiplier
multiplier_le n number =
    chosen (λ x. x ≤ 4) (eqb number 1) (lit≤ tt)
    (chosen (λ x. x ≤ 4) (eqb number (n + 1)) (lit≤ tt)
    (chosen (λ x. x ≤ 4) (eqb (number % 2) 0) (lit≤ tt) (lit≤ tt)))

-- a value's term in the sum is at most four times the greatest value
pub term_le : (n number x : ℕ) → x < 2 ^ 32 → multiplier n number * x ≤ 4 * 2 ^ 32
term_le n number x h = let m = multiplier_le n number in at_most 4 (2 ^ 32) (omega arith) (omega arith)

-- the zones fill the length: the multipliers add up to three times the parts
pub zones_fill : {n : ℕ} → EvenParts n → zone_end n (n + 1) ≡ 3 * n
unfolding multiplier
zones_fill p2 = refl
zones_fill p4 = refl
zones_fill p6 = refl
zones_fill p8 = refl
zones_fill p10 = refl
zones_fill p12 = refl
zones_fill p14 = refl
zones_fill p16 = refl

-- values that follow k others come, with their multipliers, to no more than b in each third of their zones
weighted_from_le : (n b k : ℕ) {xs : List ℕ} → AllAtMost b xs → weighted_from n (k + 1) xs + zone_end n k * b ≤ zone_end n (k + length xs) * b
weighted_from_le n b k none = rw (add-zero k) (omega arith)
weighted_from_le n b k (more {x} {xs} h r) =
    let hx = mul-le-mul_left (multiplier n (suc k)) h in
    let hr = weighted_from_le n b (suc k) r in
    let on : k + suc (length xs) ≡ suc k + length xs = omega arith in
    rw (add-one k) (omega (arith, ap (λ (i : ℕ). zone_end n i * b) on, add-mul (zone_end n k) (multiplier n (suc k)) b))

-- n + 1 values of at most b come, with their multipliers, to no more than 3 n times b
pub weighted_le : {n : ℕ} (b : ℕ) {xs : List ℕ} → EvenParts n → length xs ≡ n + 1 → AllAtMost b xs → weighted n xs ≤ 3 * n * b
unfolding weighted
weighted_le {n} b {xs} p e h =
    let whole : zone_end n (0 + length xs) ≡ 3 * n = ap (zone_end n) (zero-add (length xs) ∙ e) ∙ zones_fill p in
    omega (arith, weighted_from_le n b 0 h, ap (λ (z : ℕ). z * b) whole)

pub total_le : (b : ℕ) {xs : List ℕ} → AllAtMost b xs → total xs ≤ length xs * b
total_le b none = zero-le
total_le b (more {xs = xs} h r) =
    let hr = total_le b r in
    omega (arith, suc-mul (length xs) b)
