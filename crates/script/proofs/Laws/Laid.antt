-- Values laid into an array one after the other.
use Rattle.std.proofs.Common.{ℕ, ◌+◌, ◌<◌, ◌≡◌, sym, ap, ◌∙◌, List, [], ◌∷◌, ◌++◌, zero-add, arith, length, take, drop, get_or, set, length-take, get_or-take, length-take-le}
use lib.Seq.{set_at, append_snoc}
use Rattle.std.specs.List.{enumerate_from}
use Rattle.std.proofs.lemmas.List.FromFn.{get_or-enumerate_from, length-enumerate_from}
use Rattle.std.proofs.lemmas.List.{drop_more, take_more}
use Rattle.script.specs.Laid.{fitting, laid}

-- the array with the first n values at its front
abbrev pub begun : List ℕ → ℕ → List ℕ → List ℕ
begun values n array = take n values ++ drop n array

pub none_laid : (array : List ℕ) → laid [] array ≡ array
unfolding laid
none_laid array =
    let none : fitting [] array ≡ 0 = omega arith in
    ap (λ (k : ℕ). take k [] ++ drop k array) none

-- one value more
pub laid_more : (values array : List ℕ) (n v : ℕ) {after : List ℕ} → after ≡ begun values n array → n < length values → n < length array
    → v ≡ get_or values n 0 → set after n v ≡ begun values (n + 1) array
laid_more values array n v e h g is =
    ap (λ (a : List ℕ). set a n v) (e ∙ ap (λ (b : List ℕ). take n values ++ b) (drop_more array n 0 g))
    ∙ set_at (take n values) (get_or array n 0) (drop (n + 1) array) v n (length-take-le n values (omega arith))
    ∙ sym (append_snoc (take n values) v (drop (n + 1) array))
    ∙ ap (λ (f : List ℕ). f ++ drop (n + 1) array) (ap (λ (x : ℕ). take n values ++ x ∷ []) is ∙ sym (take_more values n 0 h))

-- as many as fit
pub all_laid : (values array : List ℕ) (n : ℕ) {after : List ℕ} → n ≡ fitting values array → after ≡ begun values n array → after ≡ laid values array
unfolding laid
all_laid values array n e f = f ∙ ap (λ (k : ℕ). begun values k array) e

-- what a turn over the first n values, each with its place, gives
pub listed : {X : Type 0} (xs : List X) (n place k : ℕ) (x : X)
    → (k < length (enumerate_from 0 (take n xs))) × ((place, x) ≡ get_or (enumerate_from 0 (take n xs)) k (place, x))
    → (place ≡ k) × (k < n) × (k < length xs) × (x ≡ get_or xs k x)
listed {X} xs n place k x here =
    let short : k < length (take n xs) = omega (arith, here.0, length-enumerate_from 0 (take n xs)) in
    let pair = here.1 ∙ get_or-enumerate_from 0 (take n xs) k (place, x) short in
    let before : k < n = omega (arith, length-take n xs) in
    (ap (λ (q : ℕ × X). q.0) pair ∙ zero-add k, before, omega (arith, length-take n xs), ap (λ (q : ℕ × X). q.1) pair ∙ get_or-take n xs k x before)
