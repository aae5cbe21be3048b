-- Some spaces, one at a time: one taken off the front, and one passed; and a sum over two rows of them.
use Rattle.std.proofs.Common.{◌≡◌, sym, ap, ◌∙◌, List, [], ◌∷◌, ◌++◌, ℕ, ◌+◌, ◌<◌, add-one, arith, length, take, drop, get_or, drop-cons, take-suc}
use Rattle.spaces.specs.Space.{empty_space}
use Rattle.spaces.specs.Row.{sum_by}
use Rattle.spaces.specs.declared.space.Space.{Space}

module _ (xs : List Space) (i : ℕ) (h : i < length xs) where
  pub one_ahead : drop i xs ≡ get_or xs i empty_space ∷ drop (i + 1) xs
  one_ahead = drop-cons xs i empty_space h ∙ ap (λ (k : ℕ). get_or xs i empty_space ∷ drop k xs) (sym (add-one i))

  pub one_passed : take i xs ++ (get_or xs i empty_space ∷ []) ≡ take (i + 1) xs
  one_passed = sym (take-suc xs i empty_space h) ∙ ap (λ (k : ℕ). take k xs) (sym (add-one i))

pub sum_append : (f : Space → ℕ) (xs ys : List Space) → sum_by f (xs ++ ys) ≡ sum_by f xs + sum_by f ys
sum_append f [] ys = omega arith
sum_append f (x ∷ xs) ys = omega (arith, sum_append f xs ys)
