-- The equations of a decimal, in which no count of digits stands, and how long one is.
use Rattle.std.proofs.Common.{ℕ, zero, suc, ◌+◌, ◌/◌, ◌^◌, ◌≤◌, ◌<◌, ◌≡◌, refl, ap, ◌∙◌, false, List, [], ◌∷◌, ◌++◌, pow-suc, arith, lt-ltb, le-ltb, ltb-true, ltb-false, ltb, length, length-append}
use Prim.Native.Char.{code}
use Rattle.spaces.proofs.Laws.Cases.{by_test}
use Rattle.listing.specs.Text.{digit, digits, decimal, hundredths}

-- any count that is no less than the number gives the same digits
enough : (f g n : ℕ) → n ≤ f → n ≤ g → digits f n ≡ digits g n
enough zero zero n h k = refl
enough zero (suc g) n h k = rw (lt-ltb n 10 (omega arith))
enough (suc f) zero n h k = rw (lt-ltb n 10 (omega arith))
enough (suc f) (suc g) n h k =
    by_test (ltb n 10)
    (λ e. rw e)
    (λ e. rw e (ap (λ (d : List ℕ). d ++ (digit n ∷ [])) (enough f g (n / 10) (least f e h) (least g e k))))
  where
    least : (more : ℕ) → ltb n 10 ≡ false → n ≤ suc more → n / 10 ≤ more
    least more e h = let low : 10 ≤ n = ltb-false n 10 e in omega arith

pub decimal_one : (n : ℕ) → n < 10 → decimal n ≡ digit n ∷ []
unfolding decimal
decimal_one n h = enough n (suc n) n (omega arith) (omega arith) ∙ rw (lt-ltb n 10 h)

pub decimal_more : (n : ℕ) → 10 ≤ n → decimal n ≡ decimal (n / 10) ++ (digit n ∷ [])
unfolding decimal
decimal_more n h =
    enough n (suc n) n (omega arith) (omega arith)
    ∙ rw (le-ltb n 10 h) (ap (λ (d : List ℕ). d ++ (digit n ∷ [])) (enough n (n / 10) (n / 10) (omega arith) (omega arith)))

-- how long a number in decimal is
pub decimal_length : (n : ℕ) → 10 ≤ n → length (decimal n) ≡ length (decimal (n / 10)) + 1
decimal_length n h = rw (decimal_more n h, length-append)

one_short : (k n : ℕ) → n < 10 → length (decimal n) ≤ suc k
one_short k n h = rw (decimal_one n h) (omega arith)

-- a number below a power of ten has no more digits than the power has zeros
pub decimal_short : (k n : ℕ) → n < 10 ^ suc k → length (decimal n) ≤ suc k
decimal_short zero n h = one_short zero n h
decimal_short (suc k) n h =
    let low : n / 10 < 10 ^ suc k = omega (arith, rw pow-suc at h) in
    let less : length (decimal (n / 10)) ≤ suc k = decimal_short k (n / 10) low in
    by_test (ltb n 10)
    (λ e. one_short (suc k) n (ltb-true n 10 e))
    (λ e. omega (arith, decimal_length n (ltb-false n 10 e)))

-- the same with a byte behind it, and of hundredths
pub number_short : (k n behind : ℕ) → n < 10 ^ suc k → length (decimal n ++ (behind ∷ [])) ≤ suc k + 1
number_short k n behind h = rw length-append (omega (arith, decimal_short k n h))

pub hundredths_length : (n behind : ℕ) → length (hundredths n ++ (behind ∷ [])) ≡ length (decimal (n / 100) ++ (code "." ∷ [])) + 3
unfolding hundredths
hundredths_length n behind = simp length-append (omega arith)

pub hundredths_short : (k n behind : ℕ) → n / 100 < 10 ^ suc k → length (hundredths n ++ (behind ∷ [])) ≤ suc k + 4
hundredths_short k n behind h = omega (arith, hundredths_length n behind, number_short k (n / 100) (code ".") h)
