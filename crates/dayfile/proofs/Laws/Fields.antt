-- One field more of a row, written, read and judged.
use Rattle.std.proofs.Common.{ℕ, zero, suc, ◌+◌, ◌<◌, ◌≤◌, zero-le, ◌≡◌, refl, ap, ◌∙◌, Bool, true, ◌&&◌, List, [], ◌∷◌, add-one, arith, leb-true, leb, lit≤, length, drop, get_or, length-append, drop-cons}
use Rattle.std.specs.List.{list_all, zip}
use lib.Seq.{sets}
use Rattle.measure.proofs.Laws.Tests.{and_left, and_right}
use Rattle.dayfile.specs.Numbers.{bytes_of}
use Rattle.dayfile.specs.Fields.{encoded, size, in_ranges}
use Rattle.dayfile.specs.Handed.{Narrow}
use Rattle.dayfile.proofs.Laws.Stores.{stored_behind}
use Rattle.dayfile.proofs.Laws.Numbers.{length_bytes}

pub narrow_at : (ws : List ℕ) (i : ℕ) → Narrow ws → get_or ws i 0 ≤ 8
narrow_at [] i h = lit≤ tt
narrow_at (w ∷ ws) zero h = h.0
narrow_at (w ∷ ws) (suc i) h = narrow_at ws i h.1

pub length_encoded : (ws ns : List ℕ) → length ws ≡ length ns → length (encoded ws ns) ≡ size ws
length_encoded [] ns h = refl
length_encoded (w ∷ ws) [] h = omega arith
length_encoded (w ∷ ws) (n ∷ ns) h =
    let k : length ws ≡ length ns = omega arith in
    length-append (bytes_of w n) (encoded ws ns) ∙ rw (length_bytes w n, length_encoded ws ns k)

pub size_step : (ws : List ℕ) (i : ℕ) → i < length ws → size (drop i ws) ≡ get_or ws i 0 + size (drop (i + 1) ws)
size_step ws i h = rw (add-one, drop-cons ws i 0 h)

pub encoded_step : (l ws ns : List ℕ) (at i : ℕ) → i < length ws → i < length ns
    → sets l at (encoded (drop i ws) (drop i ns))
    ≡ sets (sets l at (bytes_of (get_or ws i 0) (get_or ns i 0))) (at + get_or ws i 0) (encoded (drop (i + 1) ws) (drop (i + 1) ns))
encoded_step l ws ns at i h k =
    let w = get_or ws i 0 in
    let n = get_or ns i 0 in
    rw (add-one, drop-cons ws i 0 h, drop-cons ns i 0 k)
    (stored_behind l (bytes_of w n) (encoded (drop (suc i) ws) (drop (suc i) ns)) at
    ∙ ap (λ (k : ℕ). sets (sets l at (bytes_of w n)) (at + k) (encoded (drop (suc i) ws) (drop (suc i) ns))) (length_bytes w n))

-- a number with its range, which it is in
abbrev pub within : ℕ × (ℕ × ℕ) → Bool
within (n, (l, g)) = leb l n && leb n g

pub each_within : (ls gs ns : List ℕ) → length ns ≡ length ls → length ns ≡ length gs → list_all within (zip ns (zip ls gs)) ≡ in_ranges ls gs ns
each_within [] gs [] p q = refl
each_within [] gs (n ∷ ns) p q = refl
each_within (l ∷ ls) [] [] p q = refl
each_within (l ∷ ls) [] (n ∷ ns) p q = refl
each_within (l ∷ ls) (g ∷ gs) [] p q = refl
each_within (l ∷ ls) (g ∷ gs) (n ∷ ns) p q = ap (λ (t : Bool). leb l n && leb n g && t) (each_within ls gs ns (omega arith) (omega arith))

-- ---- what numbers in their ranges tell

pub at_most : (ls gs ns : List ℕ) (i : ℕ) → i < length ls → i < length gs → in_ranges ls gs ns ≡ true → get_or ns i 0 ≤ get_or gs i 0
at_most [] gs ns i p q e = omega arith
at_most (l ∷ ls) [] ns i p q e = omega arith
at_most (l ∷ ls) (g ∷ gs) [] i p q e = zero-le
at_most (l ∷ ls) (g ∷ gs) (n ∷ ns) zero p q e = leb-true n g (and_right (leb l n) _ (and_left (leb l n && leb n g) _ e))
at_most (l ∷ ls) (g ∷ gs) (n ∷ ns) (suc i) p q e =
    at_most ls gs ns i (omega arith) (omega arith) (and_right (leb l n && leb n g) _ e)

pub at_least : (ls gs ns : List ℕ) (i : ℕ) → i < length ls → i < length gs → i < length ns → in_ranges ls gs ns ≡ true → get_or ls i 0 ≤ get_or ns i 0
at_least [] gs ns i p q r e = omega arith
at_least (l ∷ ls) [] ns i p q r e = omega arith
at_least (l ∷ ls) (g ∷ gs) [] i p q r e = omega arith
at_least (l ∷ ls) (g ∷ gs) (n ∷ ns) zero p q r e = leb-true l n (and_left (leb l n) _ (and_left (leb l n && leb n g) _ e))
at_least (l ∷ ls) (g ∷ gs) (n ∷ ns) (suc i) p q r e =
    at_least ls gs ns i (omega arith) (omega arith) (omega arith) (and_right (leb l n && leb n g) _ e)
