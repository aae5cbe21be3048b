-- Hex digits: one byte more, read and written.
use Rattle.std.proofs.Common.{ℕ, zero, suc, ◌+◌, ◌*◌, ◌/◌, ◌%◌, ◌<◌, ◌≤◌, ◌≡◌, refl, ap, subst, ◌∙◌, true, List, [], ◌∷◌, ◌++◌, arith, leb-true, leb, length, get_or}
use mathlib.Core.Bool.{and-eq-true_iff}
use Rattle.std.specs.declared.slice.ChunksExact.{ChunksExact}
use Rattle.std.specs.Slice.Iter.{chunks_exact_rest, chunks_exact_size, chunks_exact_steps}
use Rattle.std.proofs.lemmas.Iterator.{YieldsList}
use Rattle.std.proofs.lemmas.Iterator.Splits.{YieldsList-from_shown_while}
use Rattle.script.specs.Words.{is_decimal, is_letter}
use Rattle.script.specs.Hex.{digit_value, hex_digit, bytes_of, hex_of}

-- ---- a digit's value

pub decimal_range : (x : ℕ) → is_decimal x ≡ true → (48 ≤ x) × (x ≤ 57)
decimal_range x e =
    let both = (and-eq-true_iff (leb 48 x) _).0 e in
    (leb-true 48 x both.0, leb-true x 57 both.1)

pub letter_range : (x : ℕ) → is_letter x ≡ true → (97 ≤ x) × (x ≤ 102)
letter_range x e =
    let both = (and-eq-true_iff (leb 97 x) _).0 e in
    (leb-true 97 x both.0, leb-true x 102 both.1)

-- ---- digits read

pub bytes_length : (digits : List ℕ) → length (bytes_of digits) ≡ length digits / 2
bytes_length [] = refl
bytes_length (x ∷ []) = refl
bytes_length (x ∷ y ∷ rest) = omega (arith, bytes_length rest)

-- the digits two by two, as `chunks_exact` gives them
abbrev pub pairs_of : List ℕ → List (List ℕ)
pairs_of [] = []
pairs_of (x ∷ []) = []
pairs_of (x ∷ y ∷ rest) = (x ∷ y ∷ []) ∷ pairs_of rest

no_pair : (xs : List ℕ) → length xs < 2 → length (pairs_of xs) ≡ 0
no_pair [] h = refl
no_pair (x ∷ []) h = refl
no_pair (x ∷ y ∷ rest) h = absurd (omega arith)

pair_ahead : (xs pair rest : List ℕ) → xs ≡ pair ++ rest → length pair ≡ 2 → pairs_of xs ≡ pair ∷ pairs_of rest
pair_ahead xs [] rest e h = absurd (omega arith)
pair_ahead xs (x ∷ []) rest e h = absurd (omega arith)
pair_ahead xs (x ∷ y ∷ []) rest e h = ap pairs_of e
pair_ahead xs (x ∷ y ∷ z ∷ more) rest e h = absurd (omega arith)

pub pairs_yielded : {s : ChunksExact ℕ} (digits : List ℕ) → chunks_exact_rest s ≡ digits → chunks_exact_size s ≡ 2
    → YieldsList chunks_exact_steps (λ x. x.now) s (pairs_of digits)
pairs_yielded {s = s} digits rest two =
    subst (YieldsList chunks_exact_steps (λ x. x.now) s) (ap pairs_of rest)
    (YieldsList-from_shown_while chunks_exact_steps (λ x. x.now) (λ (t : ChunksExact ℕ). pairs_of (chunks_exact_rest t)) (λ (t : ChunksExact ℕ). chunks_exact_size t ≡ 2)
    (λ t u p k. no_pair (chunks_exact_rest t) (omega (arith, k.1.0, p)))
    (λ t x u p k. (k.0 ∙ p, pair_ahead (chunks_exact_rest t) x.now (chunks_exact_rest u) k.1.0 (k.1.1 ∙ p)))
    s two)

pub pairs_length : (digits : List ℕ) → length (pairs_of digits) ≡ length (bytes_of digits)
pairs_length [] = refl
pairs_length (x ∷ []) = refl
pairs_length (x ∷ y ∷ rest) = ap suc (pairs_length rest)

pub pair_length : (digits : List ℕ) (k : ℕ) (pair : List ℕ) → k < length (pairs_of digits) → pair ≡ get_or (pairs_of digits) k pair → length pair ≡ 2
pair_length [] k pair h e = absurd (omega arith)
pair_length (x ∷ []) k pair h e = absurd (omega arith)
pair_length (x ∷ y ∷ rest) zero pair h e = ap length e
pair_length (x ∷ y ∷ rest) (suc k) pair h e = pair_length rest k pair (omega arith) e

pub byte_read : (digits : List ℕ) (k : ℕ) (pair : List ℕ) → k < length (pairs_of digits) → pair ≡ get_or (pairs_of digits) k pair
    → digit_value (get_or pair 0 0) * 16 + digit_value (get_or pair 1 0) ≡ get_or (bytes_of digits) k 0
byte_read [] k pair h e = absurd (omega arith)
byte_read (x ∷ []) k pair h e = absurd (omega arith)
byte_read (x ∷ y ∷ rest) zero pair h e = ap (λ (p : List ℕ). digit_value (get_or p 0 0) * 16 + digit_value (get_or p 1 0)) e
byte_read (x ∷ y ∷ rest) (suc k) pair h e = byte_read rest k pair (omega arith) e

-- ---- digits written

pub hex_length : (bytes : List ℕ) → length (hex_of bytes) ≡ 2 * length bytes
hex_length [] = refl
hex_length (b ∷ bs) = omega (arith, hex_length bs)

pub digits_written : (bytes : List ℕ) (i : ℕ) → i < length bytes
    → (hex_digit (get_or bytes i 0 / 16) ≡ get_or (hex_of bytes) (2 * i) 0) × (hex_digit (get_or bytes i 0 % 16) ≡ get_or (hex_of bytes) (2 * i + 1) 0)
digits_written [] i h = absurd (omega arith)
digits_written (b ∷ bs) zero h = (refl, refl)
digits_written (b ∷ bs) (suc i) h =
    let e : 2 * suc i ≡ suc (suc (2 * i)) = omega arith in
    let f : 2 * suc i + 1 ≡ suc (suc (2 * i + 1)) = omega arith in
    rw (f, e) (digits_written bs i (omega arith))
