-- A test that comes after all others: where none of them gives a number, it is asked, and applies or passes.
use Rattle.std.proofs.Common.{◌≡◌, Bool, true, false, not, [], ◌∷◌, ℕ, ne_eqb, eq-eqb, eqb}
use Rattle.measure.specs.Refusals.{first_of}

-- the number n that others gave, and a test with the number k after them all
abbrev with_last : (n k : ℕ) → Bool → ℕ
with_last n k b = first_of ((not (eqb n 0), n) ∷ (b, k) ∷ [])

pub last_unasked : (n k : ℕ) (b : Bool) → (n ≡ 0 → ⊥) → n ≡ with_last n k b
last_unasked n k b given = rw (ne_eqb n 0 given)

pub last_applies : (n k : ℕ) (b : Bool) → n ≡ 0 → b ≡ true → k ≡ with_last n k b
last_applies n k b none t = rw (eq-eqb n 0 none, t)

pub last_passes : (n k : ℕ) (b : Bool) → n ≡ 0 → b ≡ false → n ≡ with_last n k b
last_passes n k b none f = rw (eq-eqb n 0 none, f) none
