-- Parts of a text in std's words: what `split` and `position` give of it, and its marks one byte after the other.
use Rattle.std.proofs.Common.{ℕ, zero, suc, ◌≤◌, ◌+◌, ◌<◌, ◌≡◌, refl, sym, ap, ◌∙◌, Bool, true, false, cond, List, [], ◌∷◌, ◌++◌, arith, eq-eqb, ne_eqb, eqb, length, take, drop, get_or, drop_of_length-le, Bor}
use Rattle.std.specs.List.{slice_split, onto_first, slice_get}
use Rattle.std.specs.Option.{unwrap_or, option_map}
use Rattle.std.specs.Prelude.{Option, Some, None}
use Rattle.std.proofs.lemmas.List.{take_more}
use Rattle.script.specs.Words.{on_first, parts_of, marks_in, first}

on_first_lem : (x : ℕ) (parts : List (List ℕ)) → 0 < length parts → on_first x parts ≡ onto_first x parts
on_first_lem x [] h = absurd (omega arith)
on_first_lem x (part ∷ parts) h = refl

-- one part more than marks
pub parts_counted : (m : ℕ) (xs : List ℕ) → length (parts_of m xs) ≡ suc (marks_in m xs)
parts_counted m [] = refl
parts_counted m (x ∷ xs) =
    elim (eqb x m) as (λ b. length (cond b ([] ∷ parts_of m xs) (on_first x (parts_of m xs))) ≡ suc (cond b 1 0 + marks_in m xs))
    [ true ↦ omega (arith, parts_counted m xs) | false ↦ omega (arith, same_number x (parts_of m xs), parts_counted m xs) ]
  where
    same_number : (x : ℕ) (parts : List (List ℕ)) → length (on_first x parts) ≡ length parts
    same_number x [] = refl
    same_number x (part ∷ parts) = refl

pub parts_split : (m : ℕ) (xs : List ℕ) → slice_split (λ b. eqb b m) xs ≡ parts_of m xs
parts_split m [] = refl
parts_split m (x ∷ xs) =
    elim (eqb x m) as
    (λ b. cond b ([] ∷ slice_split (λ b. eqb b m) xs) (onto_first x (slice_split (λ b. eqb b m) xs))
    ≡ cond b ([] ∷ parts_of m xs) (on_first x (parts_of m xs))) [
      | true ↦ ap (λ (l : List (List ℕ)). [] ∷ l) (parts_split m xs)
      | false ↦ ap (onto_first x) (parts_split m xs) ∙ sym (on_first_lem x (parts_of m xs) (omega (arith, parts_counted m xs)))
    ]

marks_behind : (m : ℕ) (xs : List ℕ) (x : ℕ) → marks_in m (xs ++ (x ∷ [])) ≡ marks_in m xs + cond (eqb x m) 1 0
marks_behind m [] x = omega arith
marks_behind m (y ∷ ys) x = omega (arith, marks_behind m ys x)

-- one byte more, a mark or none
module _ (m : ℕ) (xs : List ℕ) (i : ℕ) (h : i < length xs) where
  marks_more : marks_in m (take (i + 1) xs) ≡ marks_in m (take i xs) + cond (eqb (get_or xs i 0) m) 1 0
  marks_more = ap (marks_in m) (take_more xs i 0 h) ∙ marks_behind m (take i xs) (get_or xs i 0)

  pub marks_found : get_or xs i 0 ≡ m → marks_in m (take (i + 1) xs) ≡ marks_in m (take i xs) + 1
  marks_found e = marks_more ∙ ap (λ (b : Bool). marks_in m (take i xs) + cond b 1 0) (eq-eqb _ _ e)

  pub marks_passed : (get_or xs i 0 ≡ m → ⊥) → marks_in m (take (i + 1) xs) ≡ marks_in m (take i xs)
  marks_passed ne = marks_more ∙ ap (λ (b : Bool). marks_in m (take i xs) + cond b 1 0) (ne_eqb _ _ ne) ∙ omega arith

-- the first part, behind no mark
pub first_part : (m : ℕ) (xs : List ℕ) → get_or (parts_of m xs) 0 [] ≡ first m xs
first_part m [] = refl
first_part m (x ∷ xs) =
    elim (eqb x m) as (λ b. get_or (cond b ([] ∷ parts_of m xs) (on_first x (parts_of m xs))) 0 [] ≡ cond b [] (x ∷ first m xs))
    [ true ↦ refl | false ↦ longer (parts_of m xs) (omega (arith, parts_counted m xs)) ∙ ap (λ (l : List ℕ). x ∷ l) (first_part m xs) ]
  where
    longer : (parts : List (List ℕ)) → 0 < length parts → get_or (on_first x parts) 0 [] ≡ x ∷ get_or parts 0 []
    longer [] h = absurd (omega arith)
    longer (part ∷ parts) h = refl

-- past the text's end there is none
pub no_part : (m : ℕ) (xs : List ℕ) (at : ℕ) → length xs ≤ at → [] ≡ first m (drop at xs)
no_part m xs at h = sym (ap (first m) (drop_of_length-le xs {i = at} h))

-- the part at a place, where `nth` gives it or there is none
pub part_given : (r : Option (Bor (List ℕ))) (otherwise : Bor (List ℕ)) (parts : List (List ℕ)) (k : ℕ)
    → option_map (λ x. x.now) r ≡ slice_get parts k → otherwise.now ≡ [] → (unwrap_or r otherwise).now ≡ get_or parts k []
part_given None otherwise [] k e n = n
part_given (Some x) otherwise [] k e n = cc
part_given None otherwise (part ∷ parts) zero e n = cc
part_given (Some x) otherwise (part ∷ parts) zero e n = cc
part_given r otherwise (part ∷ parts) (suc k) e n = part_given r otherwise parts k e n
