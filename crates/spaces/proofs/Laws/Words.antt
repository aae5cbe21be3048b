-- A search, a place and a sum in the library's words, as its iterators have them. Stands on Places.
use Rattle.std.proofs.Common.{◌≡◌, ℕ, suc, ◌+◌, Bool, true, false, cond, not, List, [], ◌∷◌, length, eqb, ltb, refl, ap, arith, Some, None, unwrap_or, find as first, position, fold, sum_by as summed_by, ltb-false}
use Rattle.std.specs.List.{position_or_len}
use Rattle.spaces.specs.Row.{find, place_of, sum_by}
use Rattle.spaces.specs.declared.space.Space.{Space}
use Rattle.spaces.proofs.Laws.Places.{place_bounded}

module _ (id : ℕ) where
  abbrev pub has_id : Space → Bool
  has_id x = eqb x.id id

  pub found_is : (xs : List Space) → first has_id xs ≡ find id xs
  found_is [] = refl
  found_is (x ∷ xs) = ap (cond (eqb x.id id) (Some x)) (found_is xs)

  passed_is : (xs : List Space) → position_or_len has_id xs ≡ place_of id xs
  passed_is [] = refl
  passed_is (x ∷ xs) = one_more (eqb x.id id) (passed_is xs)
    where
      one_more : (t : Bool) {m n : ℕ} → m ≡ n → cond (not t) (1 + m) 0 ≡ cond t 0 (suc n)
      one_more true e = refl
      one_more false e = omega (arith, e)

  pub position_is : (xs : List Space) → unwrap_or (position has_id xs) (length xs) ≡ place_of id xs
  position_is xs = at_most (ltb (position_or_len has_id xs) (length xs)) refl
    where
      at_most : (t : Bool) → ltb (position_or_len has_id xs) (length xs) ≡ t
          → unwrap_or (cond t (Some (position_or_len has_id xs)) None) (length xs) ≡ place_of id xs
      at_most true e = passed_is xs
      at_most false e = omega (arith, ltb-false _ _ e, passed_is xs, place_bounded id xs)

summed_from : (f : Space → ℕ) (n : ℕ) (xs : List Space) → fold (λ (a : ℕ) (x : Space). a + f x) n xs ≡ n + sum_by f xs
summed_from f n [] = omega arith
summed_from f n (x ∷ xs) = omega (arith, summed_from f (n + f x) xs)

pub summed_is : (f : Space → ℕ) (xs : List Space) → summed_by f xs ≡ sum_by f xs
summed_is f xs = omega (arith, summed_from f 0 xs)
