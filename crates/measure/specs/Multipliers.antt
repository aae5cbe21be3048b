-- The multipliers of Simpson's first rule, and sums over lists.
use Rattle.std.specs.Prelude.{ℕ, ◌+◌, ◌*◌, ◌%◌, ◌<◌, ◌≡◌, List, [], ◌∷◌, cond, eqb}

-- "first and last breadth once, even-numbered four times, other odd-numbered twice" (69.109(k)(3), (l)(2)): the multiplier of the
-- value with a number, from 1, of a division into n parts
unfoldable pub multiplier : ℕ → ℕ → ℕ
multiplier n number =
    cond (eqb number 1) 1
    (cond (eqb number (n + 1)) 1
    (cond (eqb (number % 2) 0) 4
    2))

-- The same, of the n + 1 values of a division into n parts: the value with this number counts so many times. `multiplier` is such a
-- number, and no other is (measure_laws, Classes).
pub data Counts (n number : ℕ) : ℕ → Type 0 where
  first_once : number ≡ 1 → Counts n number 1
  last_once : number ≡ n + 1 → Counts n number 1
  even_four_times : 1 < number → number < n + 1 → number % 2 ≡ 0 → Counts n number 4
  other_odd_twice : 1 < number → number < n + 1 → number % 2 ≡ 1 → Counts n number 2

-- the values of a list that begins with this number, each with its multiplier, added up
abbrev pub weighted_from : ℕ → ℕ → List ℕ → ℕ
weighted_from n number [] = 0
weighted_from n number (x ∷ xs) = multiplier n number * x + weighted_from n (number + 1) xs

-- the same of a whole list
unfoldable pub weighted : ℕ → List ℕ → ℕ
weighted n xs = weighted_from n 1 xs

-- the plain sum
abbrev pub total : List ℕ → ℕ
total [] = 0
total (x ∷ xs) = x + total xs
