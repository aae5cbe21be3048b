-- Runs of stores into a buffer, and into a part of it that is lent on.
use Rattle.std.proofs.Common.{ℕ, suc, ◌+◌, ◌-◌, ◌≤◌, ◌≡◌, refl, sym, ap, ap₂, ◌∙◌, List, [], ◌∷◌, ◌++◌, append-nil, append_assoc, add-zero, zero-add, arith, length, take, drop, set, length-set, length-drop, drop_of_length-le, take-append-drop, take_all}
use borrow.Rule.Slice.PartMut.{put_mid}
use Rattle.std.proofs.lemmas.Slice.{put_mid-paste}
use Rattle.std.proofs.lemmas.List.Edits.{paste_all}
use lib.Seq.{sets, sets-eq, length-sets, take-set-le, drop-set-add}

-- a run and then a second one behind it are one run of both
pub stored_behind : (l a b : List ℕ) (i : ℕ) → sets l i (a ++ b) ≡ sets (sets l i a) (i + length a) b
stored_behind l [] b i = rw add-zero
stored_behind l (x ∷ a) b i =
    stored_behind (set l i x) a b (suc i) ∙ ap (λ (k : ℕ). sets (sets (set l i x) (suc i) a) k b) (omega arith)

-- a part that now holds a run, put back in its place
pub stored_part : (l part vs : List ℕ) (at size : ℕ) → part ≡ vs → size ≡ length vs → at + length vs ≤ length l → put_mid at size l part ≡ sets l at vs
stored_part l part vs at size is sized within =
    put_mid-paste at size l part vs (length vs) is (sym sized) refl
    ∙ paste_all l at vs (length vs) refl
    ∙ sym (append_assoc (take at l) vs (drop (at + length vs) l))
    ∙ sym (sets-eq vs l at within)

-- and a part at the front
pub stored_in_front : (l part vs : List ℕ) (size : ℕ) → part ≡ vs → size ≡ length vs → length vs ≤ length l → part ++ drop size l ≡ sets l 0 vs
stored_in_front l part vs size is sized within =
    ap₂ (λ (p : List ℕ) (n : ℕ). p ++ drop n l) is (sized ∙ sym (zero-add (length vs)))
    ∙ sym (sets-eq vs l 0 (omega (arith, within)))

-- a run in the part from a place on, put back behind what is before it
in_part : (vs l : List ℕ) (at i : ℕ) → at ≤ length l → take at l ++ sets (drop at l) i vs ≡ sets l (at + i) vs
in_part [] l at i h = take-append-drop at l
in_part (v ∷ vs) l at i h =
    let e : take at (set l (at + i) v) ≡ take at l = take-set-le at l (at + i) v (omega arith) in
    let f : drop at (set l (at + i) v) ≡ set (drop at l) i v = drop-set-add at l i v in
    let s : suc (at + i) ≡ at + suc i = omega arith in
    rw (s, ← e, ← f) (in_part vs (set l (at + i) v) at (suc i) (rw length-set h))

-- the part from a place on, as it is lent
pub lent_part : (l : List ℕ) (at : ℕ) → take (length l - at) (drop at l) ≡ drop at l
lent_part l at = take_all (length l - at) (drop at l) (rw length-drop (omega arith))

-- a run at the front of the part from a place on, with the part put back, is the run at that place in the whole
pub stored_in_part : (l vs : List ℕ) (at : ℕ) → at ≤ length l
    → take at l ++ (sets (take (length l - at) (drop at l)) 0 vs ++ drop (length l - at) (drop at l)) ≡ sets l at vs
stored_in_part l vs at h =
    let q : length (drop at l) ≤ length l - at = rw length-drop (omega arith) in
    let e : drop (length l - at) (drop at l) ≡ [] = drop_of_length-le (drop at l) q in
    rw (lent_part l at, e, append-nil)
    (in_part vs l at 0 h ∙ ap (λ (k : ℕ). sets l k vs) (add-zero at))

-- a run behind another one, in the part that is lent from where that ends
pub stored_in_last_part : (l b m v w : List ℕ) (from end : ℕ) → end ≡ from + length v → end ≤ length l → b ≡ sets l from v
    → m ≡ sets (take (length b - end) (drop end b)) 0 w → take end b ++ (m ++ drop (length b - end) (drop end b)) ≡ sets l from (v ++ w)
stored_in_last_part l b m v w from end e h b-is m-is =
    let n : length b ≡ length l = ap length b-is ∙ length-sets l from v in
    ap (λ (part : List ℕ). take end b ++ (part ++ drop (length b - end) (drop end b))) m-is
    ∙ stored_in_part b w end (omega (arith, n, h))
    ∙ ap (λ (x : List ℕ). sets x end w) b-is
    ∙ ap (λ (k : ℕ). sets (sets l from v) k w) e
    ∙ sym (stored_behind l v w from)

-- two parts lent one after the other, the second where the first run ends
pub stored_in_two_parts : (l b m₁ m₂ w₁ w₂ : List ℕ) (at end : ℕ) → at ≤ length l → end ≡ at + length w₁ → end ≤ length l
    → b ≡ take at l ++ (m₁ ++ drop (length l - at) (drop at l))
    → m₁ ≡ sets (take (length l - at) (drop at l)) 0 w₁
    → m₂ ≡ sets (take (length b - end) (drop end b)) 0 w₂
    → take end b ++ (m₂ ++ drop (length b - end) (drop end b)) ≡ sets l at (w₁ ++ w₂)
stored_in_two_parts l b m₁ m₂ w₁ w₂ at end h e g q p₁ p₂ =
    stored_in_last_part l b m₂ w₁ w₂ at end e g
    (q ∙ ap (λ (m : List ℕ). take at l ++ (m ++ drop (length l - at) (drop at l))) p₁ ∙ stored_in_part l w₁ at h)
    p₂
