-- Laws of lists of any values: one taken off the front, one stored behind those before it, and a row filled from the front.
use Rattle.std.proofs.Common.{◌≡◌, sym, ap, ◌∙◌, List, [], ◌∷◌, ◌++◌, ℕ, suc, ◌+◌, ◌-◌, ◌<◌, add-one, arith, length, take, drop, set, get_or, replicate, drop-cons, take-suc-set}
use lib.Seq.{append_snoc, set_at}

-- a list from place i on is its element there and the list from place i + 1 on
pub drop_step : {A : Type 0} (xs : List A) (i : ℕ) (none : A) → i < length xs → drop i xs ≡ get_or xs i none ∷ drop (i + 1) xs
drop_step xs i none h = drop-cons xs i none h ∙ ap (λ (k : ℕ). get_or xs i none ∷ drop k xs) (sym (add-one i))

-- the first i, the one stored behind them, and others
pub store_step : {A : Type 0} (xs : List A) (i : ℕ) (x : A) (later : List A) → i < length xs → take (i + 1) (set xs i x) ++ later ≡ take i xs ++ x ∷ later
store_step xs i x later h = rw (add-one i, take-suc-set xs i x h) (append_snoc (take i xs) x later)

-- a row of k places of which the first i are filled: one more
pub filled_more : {A : Type 0} (filled : List A) (blank x : A) (k i : ℕ) → length filled ≡ i → i < k
    → set (filled ++ replicate (k - i) blank) i x ≡ (filled ++ (x ∷ [])) ++ replicate (k - (i + 1)) blank
filled_more {A} filled blank x k i e h =
    let left = replicate (k - (i + 1)) blank in
    let places : k - i ≡ suc (k - (i + 1)) = omega arith in
    ap (λ (n : ℕ). set (filled ++ replicate n blank) i x) places ∙ set_at filled blank left x i e ∙ sym (append_snoc filled x left)
