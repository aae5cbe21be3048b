-- What a decimal is: digits that give the number back, with no zero in front of it; and nothing else is. What hundredths are.
use Rattle.std.proofs.Common.{ℕ, zero, suc, ◌+◌, ◌*◌, ◌-◌, ◌/◌, ◌≤◌, ◌<◌, ◌≡◌, refl, sym, ap, ◌∙◌, List, [], ◌∷◌, ◌++◌, arith, eqb-true, ltb-true, ltb-false, eqb, ltb, length, get_or}
use Prim.Native.Char.{code}
use borrow.Author.Tests.{eqb-false}
use Rattle.spaces.proofs.Laws.Cases.{by_test}
use Rattle.listing.specs.Text.{digit, decimal, hundredths}
use Rattle.listing.proofs.Laws.Decimal.{decimal_one, decimal_more}

-- every byte is a digit
abbrev pub Digits : List ℕ → Type 0
Digits [] = Unit
Digits (d ∷ ds) = (code "0" ≤ d) × (d ≤ code "9") × Digits ds

-- the number that digits give, behind those that gave `before`
abbrev pub value : ℕ → List ℕ → ℕ
value before [] = before
value before (d ∷ ds) = value (10 * before + (d - code "0")) ds

pub record Decimal (n : ℕ) (ds : List ℕ) : Type 0 where
  pub all_digits : Digits ds
  pub gives_back : value 0 ds ≡ n
  pub no_leading_zero : 0 < n → code "0" < get_or ds 0 0
  pub zero_is_one : n ≡ 0 → ds ≡ code "0" ∷ []

-- ---- a digit at the end

digits_and : (ds : List ℕ) (d : ℕ) → Digits ds → code "0" ≤ d → d ≤ code "9" → Digits (ds ++ (d ∷ []))
digits_and [] d all low high = (low, high, tt)
digits_and (x ∷ ds) d all low high = (all.0, all.1, digits_and ds d all.2 low high)

digits_of : (ds : List ℕ) (d : ℕ) → Digits (ds ++ (d ∷ [])) → Digits ds × (code "0" ≤ d) × (d ≤ code "9")
digits_of [] d all = (tt, all.0, all.1)
digits_of (x ∷ ds) d all = let rest = digits_of ds d all.2 in ((all.0, all.1, rest.0), rest.1, rest.2)

value_and : (before : ℕ) (ds : List ℕ) (d : ℕ) → value before (ds ++ (d ∷ [])) ≡ 10 * value before ds + (d - code "0")
value_and before [] d = refl
value_and before (x ∷ ds) d = value_and (10 * before + (x - code "0")) ds d

-- what is behind makes a number no smaller
value_grows : (before : ℕ) (ds : List ℕ) → before ≤ value before ds
value_grows before [] = omega arith
value_grows before (x ∷ ds) = omega (arith, value_grows (10 * before + (x - code "0")) ds)

-- ---- a decimal is one

first_and : (ds : List ℕ) (d : ℕ) → 0 < get_or ds 0 0 → get_or (ds ++ (d ∷ [])) 0 0 ≡ get_or ds 0 0
first_and [] d h = let never : ⊥ = omega arith in absurd never
first_and (x ∷ ds) d h = refl

one_digit : (n : ℕ) → n < 10 → Decimal n (digit n ∷ [])
one_digit n h =
    record {
      all_digits = (omega arith, omega arith, tt);
      gives_back = omega arith;
      no_leading_zero = λ p. omega arith;
      zero_is_one = λ e. rw e;
    }

one_more : (n : ℕ) (ds : List ℕ) → 10 ≤ n → Decimal (n / 10) ds → Decimal n (ds ++ (digit n ∷ []))
one_more n ds h front =
    let lead : code "0" < get_or ds 0 0 = front.no_leading_zero (omega arith) in
    record {
      all_digits = digits_and ds (digit n) front.all_digits (omega arith) (omega arith);
      gives_back = omega (arith, value_and 0 ds (digit n), front.gives_back);
      no_leading_zero = λ p. omega (arith, lead, first_and ds (digit n) (omega arith));
      zero_is_one = λ e. let never : ⊥ = omega arith in absurd never;
    }

below : (bound n : ℕ) → n ≤ bound → Decimal n (decimal n)
below zero n h = rw (decimal_one n (omega arith)) (one_digit n (omega arith))
below (suc bound) n h =
    by_test (ltb n 10)
    (λ e. let small : n < 10 = ltb-true n 10 e in rw (decimal_one n small) (one_digit n small))
    (λ e.
    let large : 10 ≤ n = ltb-false n 10 e in
    rw (decimal_more n large) (one_more n (decimal (n / 10)) large (below bound (n / 10) (omega arith))))

pub decimal_is : (n : ℕ) → Decimal n (decimal n)
decimal_is n = below n n (omega arith)

-- ---- and nothing else is

record Ends (ds : List ℕ) : Type 0 where
  front : List ℕ
  last : ℕ
  is : ds ≡ front ++ (last ∷ [])

ends : (d : ℕ) (ds : List ℕ) → Ends (d ∷ ds)
ends d [] = record { front = []; last = d; is = refl }
ends d (x ∷ ds) =
    let e = ends x ds in
    record { front = d ∷ e.front; last = e.last; is = ap (λ (rest : List ℕ). d ∷ rest) e.is }

-- the last digit is the number's, and what stands before it gives the number's tenth
record Split (n : ℕ) (front : List ℕ) (last : ℕ) : Type 0 where
  last_is : last ≡ digit n
  front_gives : value 0 front ≡ n / 10
  front_digits : Digits front

split : (n : ℕ) (front : List ℕ) (last : ℕ) → Digits (front ++ (last ∷ [])) → value 0 (front ++ (last ∷ [])) ≡ n → Split n front last
split n front last all e =
    let parts = digits_of front last all in
    let sum : 10 * value 0 front + (last - code "0") ≡ n = sym (value_and 0 front last) ∙ e in
    let low : code "0" ≤ last = parts.1 in
    let high : last ≤ code "9" = parts.2 in
    record { last_is = omega arith; front_gives = omega arith; front_digits = parts.0 }

-- by the digits before the last: none, or the decimal of the number's tenth
from_front : (n : ℕ) (front : List ℕ) (last : ℕ) → 0 < n → Split n front last → code "0" < get_or (front ++ (last ∷ [])) 0 0
    → (0 < n / 10 → Decimal (n / 10) front → front ≡ decimal (n / 10)) → front ++ (last ∷ []) ≡ decimal n
from_front n [] last h s lead tenth =
    let small : n < 10 = omega (arith, s.front_gives) in
    rw s.last_is (sym (decimal_one n small))
from_front n (d ∷ ds) last h s lead tenth =
    let some : 0 < n / 10 = omega (arith, s.front_gives, value_grows (10 * 0 + (d - code "0")) ds) in
    let front : Decimal (n / 10) (d ∷ ds) =
    record {
      all_digits = s.front_digits;
      gives_back = s.front_gives;
      no_leading_zero = λ p. lead;
      zero_is_one = λ e. let never : ⊥ = omega arith in absurd never;
    } in
    ap (λ (l : List ℕ). l ++ (last ∷ [])) (tenth some front)
    ∙ ap (λ (x : ℕ). decimal (n / 10) ++ (x ∷ [])) s.last_is
    ∙ sym (decimal_more n (omega arith))

nought : (n : ℕ) (ds : List ℕ) → n ≡ 0 → Decimal n ds → ds ≡ decimal n
nought n ds e w =
    let d : code "0" ≡ digit n = omega arith in
    w.zero_is_one e ∙ ap (λ (x : ℕ). x ∷ []) d ∙ sym (decimal_one n (omega arith))

-- the digits as they end
from_end : (n : ℕ) (ds : List ℕ) → Ends ds → 0 < n → Decimal n ds
    → ((front : List ℕ) → 0 < n / 10 → Decimal (n / 10) front → front ≡ decimal (n / 10)) → ds ≡ decimal n
from_end n ds e h w tenth =
    let lead : code "0" < get_or ds 0 0 = w.no_leading_zero h in
    let parts = split n e.front e.last (rw e.is at w.all_digits) (rw e.is at w.gives_back) in
    e.is ∙ from_front n e.front e.last h parts (rw e.is at lead) (tenth e.front)

not_empty : (n : ℕ) (ds : List ℕ) → 0 < n → Decimal n ds → Ends ds
not_empty n [] h w = let never : ⊥ = omega (arith, w.no_leading_zero h) in absurd never
not_empty n (d ∷ ds) h w = ends d ds

only_below : (bound n : ℕ) (ds : List ℕ) → n ≤ bound → Decimal n ds → ds ≡ decimal n
only_below zero n ds h w = nought n ds (omega arith) w
only_below (suc bound) n ds h w =
    by_test (eqb n 0)
    (λ z. nought n ds (eqb-true n 0 z) w)
    (λ f.
    let some : 0 < n = omega (arith, eqb-false n 0 f) in
    from_end n ds (not_empty n ds some w) some w (λ front p. only_below bound (n / 10) front (omega arith)))

pub decimal_only : (n : ℕ) (ds : List ℕ) → Decimal n ds → ds ≡ decimal n
decimal_only n ds w = only_below n n ds (omega arith) w

-- ---- hundredths

-- a decimal, a point and always two digits, which give the number back
pub record Hundredths (n : ℕ) (text : List ℕ) : Type 0 where
  pub whole : List ℕ
  pub two : List ℕ
  pub text_is : text ≡ whole ++ (code "." ∷ two)
  pub whole_is : Decimal (n / 100) whole
  pub two_digits : Digits two × (length two ≡ 2)
  pub gives_back : 100 * value 0 whole + value 0 two ≡ n

pub hundredths_are : (n : ℕ) → Hundredths n (hundredths n)
unfolding hundredths
hundredths_are n =
    let d = decimal_is (n / 100) in
    record {
      whole = decimal (n / 100);
      two = digit (n / 10) ∷ digit n ∷ [];
      text_is = refl;
      whole_is = d;
      two_digits = ((omega arith, omega arith, (omega arith, omega arith, tt)), refl);
      gives_back = omega (arith, d.gives_back);
    }
