-- Parts of lists, and places of an array moved up.
use Rattle.std.proofs.Common.{◌≡◌, sym, ap, ◌∙◌, List, [], ◌∷◌, ◌++◌, map, ℕ, suc, ◌+◌, ◌-◌, ◌≤◌, ◌<◌, length, take, drop, get_or, set, add-one, arith, append_assoc, length-append}
use Rattle.std.proofs.lemmas.List.{set_split, set_at, take-take, take-append-le, length-take-le, length-map, drop_at, map_more}
use Rattle.std.proofs.Math.Seq.{append_snoc, paste, drop-cons}

-- the first n, one behind them, and the rest from n + 1 on: the element at n set
pub behind_first : {A : Type 0} (l : List A) (n : ℕ) (x : A) → n < length l → take n l ++ (x ∷ []) ++ drop (n + 1) l ≡ set l n x
behind_first l n x h =
    append_snoc (take n l) x (drop (n + 1) l) ∙ ap (λ (k : ℕ). take n l ++ x ∷ drop k l) (add-one n) ∙ sym (set_split l n x h)

-- what is made of one more of some elements, put in its place
pub put_next : {A B : Type 0} (f : A → B) (l : List A) (d : List B) (i : ℕ) (a : A) (b : B) → i < length l → i < length d
    → set (map f (take i l) ++ drop i d) i (f (get_or l i a)) ≡ map f (take (i + 1) l) ++ drop (i + 1) d
put_next {B = B} f l d i a b hl hd =
    let done = map f (take i l) in
    let len : length done ≡ i = length-map (take i l) f ∙ length-take-le i l (omega arith) in
    ap (λ (r : List B). set (done ++ r) i (f (get_or l i a))) (drop-cons d i b hd)
    ∙ set_at done (get_or d i b) (drop (suc i) d) (f (get_or l i a)) i len
    ∙ sym (append_snoc done (f (get_or l i a)) (drop (suc i) d))
    ∙ ap (λ (r : List B). r ++ drop (suc i) d) (sym (map_more f l i a hl))
    ∙ ap (λ (k : ℕ). map f (take (i + 1) l) ++ drop k d) (sym (add-one i))

-- the elements from p up to n each one place further, and x at p
pub moved_up : {A : Type 0} (d : List A) (p n : ℕ) (x : A) → p ≤ n → n < length d
    → set (paste d (p + 1) (drop p d) (n - p)) p x ≡ paste d p (x ∷ drop p d) (n + 1 - p)
moved_up {A} d p n x hp hn =
    let m = n - p in
    let head = take (p + 1) d in
    let moved = take m (drop p d) in
    let rest = moved ++ drop (p + 1 + m) d in
    let len : length head ≡ p + 1 = length-take-le (p + 1) d (omega arith) in
    let next : suc m ≡ n + 1 - p = omega arith in
    let there : p + 1 + m ≡ p + suc m = omega arith in
    let before : take p (head ++ rest) ≡ take p d = take-append-le p head rest (omega arith) ∙ take-take p (p + 1) d (omega arith) in
    let behind : drop (suc p) (head ++ rest) ≡ rest = drop_at head rest (suc p) (omega (arith, len)) in
    ap (λ (l : List A). set l p x) (append_assoc head moved (drop (p + 1 + m) d))
    ∙ set_split (head ++ rest) p x (omega (arith, length-append head rest, len))
    ∙ ap (λ (l : List A). l ++ x ∷ drop (suc p) (head ++ rest)) before
    ∙ ap (λ (l : List A). take p d ++ x ∷ l) behind
    ∙ sym (append_assoc (take p d) (x ∷ moved) (drop (p + 1 + m) d))
    ∙ ap (λ (k : ℕ). take p d ++ (x ∷ moved) ++ drop k d) there
    ∙ ap (paste d p (x ∷ drop p d)) next
