-- Numbers: digits passed, and the values that are held.
use Rattle.std.proofs.Common.{ℕ, ◌+◌, ◌*◌, ◌-◌, ◌≤◌, ◌<◌, ◌≡◌, refl, sym, ap, ◌∙◌, Bool, true, false, ◌&&◌, List, [], ◌∷◌, arith, le-leb, length, drop, get_or, drop_of_length-le}
use mathlib.Core.Bool.{and-eq-true_iff}
use borrow.Author.Tests.{lt-leb}
use Rattle.std.proofs.lemmas.List.{at_drop_more}
use Rattle.std.specs.List.{list_all}
use Rattle.std.specs.Prelude.{Ok, Err}
use Rattle.script.specs.Words.{is_decimal, is_digit, all_digits, value_behind, held}
use Rattle.script.specs.declared.remarks.Remark.TheVariants.{NumberTooLarge}

-- ---- digits, in std's words

pub digits_tested : (hex : Bool) (xs : List ℕ) → list_all (is_digit hex) xs ≡ all_digits hex xs
digits_tested hex [] = refl
digits_tested hex (x ∷ xs) = ap (λ (b : Bool). is_digit hex x && b) (digits_tested hex xs)

-- ---- the digits from a place on

module _ (xs : List ℕ) (i : ℕ) (h : i < length xs) where
  pub digit_here : all_digits false (drop i xs) ≡ true → is_decimal (get_or xs i 0) ≡ true
  digit_here e = ((and-eq-true_iff (is_decimal (get_or xs i 0)) _).0 (sym (at_drop_more (all_digits false) xs i 0 h) ∙ e)).0

  pub digits_left : all_digits false (drop i xs) ≡ true → all_digits false (drop (i + 1) xs) ≡ true
  digits_left e = ((and-eq-true_iff (is_decimal (get_or xs i 0)) _).0 (sym (at_drop_more (all_digits false) xs i 0 h) ∙ e)).1

  pub value_ahead : (v : ℕ) → value_behind v (drop i xs) ≡ value_behind (v * 10 + (get_or xs i 0 - 48)) (drop (i + 1) xs)
  value_ahead v = at_drop_more (value_behind v) xs i 0 h

pub value_ended : (v : ℕ) (xs : List ℕ) (i : ℕ) → length xs ≤ i → value_behind v (drop i xs) ≡ v
value_ended v xs i h = ap (value_behind v) (drop_of_length-le xs {i = i} h)

-- ---- values

value_grows : (v : ℕ) (xs : List ℕ) → v ≤ value_behind v xs
value_grows v [] = omega arith
value_grows v (x ∷ xs) = omega (arith, value_grows (v * 10 + (x - 48)) xs)

pub held_whole : (v : ℕ) → v ≤ 18446744073709551615 → held v ≡ Ok v
unfolding held
held_whole v h = simp (le-leb _ _ h)

-- digits with too large a value so far
pub too_large : (v w : ℕ) (xs : List ℕ) → value_behind v xs ≡ w → 18446744073709551615 < v → held w ≡ Err NumberTooLarge
unfolding held
too_large v w xs e h = simp (lt-leb w 18446744073709551615 (omega (arith, value_grows v xs)))

-- what the proof of a number's value cites
pub ruleset digits_valued = (digit_here, digits_left, value_ahead, value_ended, held_whole, too_large)
