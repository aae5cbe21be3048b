-- The lines of a text, the first cut off.
use Rattle.std.proofs.Common.{ℕ, zero, suc, ◌+◌, ◌-◌, ◌<◌, min, ◌≡◌, refl, sym, ap, ap₂, ◌∙◌, true, false, cond, List, [], ◌∷◌, arith, eqb, length, take, drop, drop_of_length-le}
use Rattle.std.proofs.lemmas.List.{take_rest}
use native.Mathlib.Nat.{min-eq_left, min-eq_right, suc-min-suc}
use Rattle.script.specs.Words.{first}
use Rattle.script.specs.Text.{on_line, lines_of}

-- a text that isn't empty begins with a line, and the others stand behind its newline
cut : (xs : List ℕ) → 0 < length xs → lines_of xs ≡ first 10 xs ∷ lines_of (drop (length (first 10 xs) + 1) xs)
cut [] h = absurd (omega arith)
cut (x ∷ []) h =
    elim (eqb x 10) as
    (λ b. cond b ([] ∷ []) (on_line x []) ≡ cond b [] (x ∷ []) ∷ lines_of (drop (length (cond b [] (x ∷ [])) + 1) (x ∷ [])))
    [ true ↦ refl | false ↦ refl ]
cut (x ∷ y ∷ ys) h =
    elim (eqb x 10) as
    (λ b. cond b ([] ∷ lines_of (y ∷ ys)) (on_line x (lines_of (y ∷ ys)))
    ≡ cond b [] (x ∷ first 10 (y ∷ ys)) ∷ lines_of (drop (length (cond b [] (x ∷ first 10 (y ∷ ys))) + 1) (x ∷ y ∷ ys))) [
      | true ↦ refl
      | false ↦ ap (on_line x) (cut (y ∷ ys) (omega arith)) ∙ ap (λ (n : ℕ). (x ∷ first 10 (y ∷ ys)) ∷ lines_of (drop n (x ∷ y ∷ ys))) (next (length (first 10 (y ∷ ys))))
    ]
  where
    next : (k : ℕ) → suc (k + 1) ≡ suc k + 1
    next k = omega arith

-- past the text's end nothing is left
left_behind : (xs : List ℕ) (k : ℕ) → drop (min (length xs) k) xs ≡ drop k xs
left_behind [] k = ap (λ (n : ℕ). drop n []) (min-eq_left (omega arith)) ∙ sym (drop_of_length-le [] {i = k} (omega arith))
left_behind (x ∷ xs) zero = ap (λ (n : ℕ). drop n (x ∷ xs)) (min-eq_right (omega arith))
left_behind (x ∷ xs) (suc k) = ap (λ (n : ℕ). drop n (x ∷ xs)) (suc-min-suc (length xs) k) ∙ left_behind xs k

-- as the code has them: the line, and where the others begin
pub line_cut : (xs line : List ℕ) (at : ℕ) → 0 < length xs → line ≡ first 10 xs → at ≡ min (length xs) (length line + 1)
    → lines_of xs ≡ line ∷ lines_of (take (length xs - at) (drop at xs))
line_cut xs line at h is there =
    let rest : take (length xs - at) (drop at xs) ≡ drop (length (first 10 xs) + 1) xs =
    take_rest xs at ∙ ap (λ (n : ℕ). drop n xs) there ∙ left_behind xs (length line + 1) ∙ ap (λ (l : List ℕ). drop (length l + 1) xs) is in
    cut xs h ∙ sym (ap₂ ◌∷◌ is (ap lines_of rest))
