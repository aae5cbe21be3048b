-- What the rounding did (T-04): a third interval and its rounding are the only two numbers that give the exact fraction back with a rounding
-- of at most a half; its sign; and the roundings that a space passes on, a place at a time.
use Rattle.std.proofs.Common.{ℕ, zero, suc, ◌+◌, ◌-◌, ◌*◌, ◌%◌, ◌≤◌, ◌<◌, ◌≡◌, refl, sym, ap, ◌∙◌, ◌↔◌, List, [], ◌∷◌, ◌++◌, map, mul_comm, div-add-mod', arith, ne_eqb, le→leb, lt→ltb, leb→le, ltb→lt, ℤ, pos, negsuc, nat_abs, ◌-ℤ◌, length, get_or, replicate, length-append, ext_get_or}
use native.Mathlib.Nat.{mul-mod_right}
use lib.IntN.{pos-ne-negsuc}
use lib.ListN.{length-map, length-replicate}
use Rattle.measure.specs.Kinds.{kind_of}
use Rattle.measure.specs.Rounding.{nearest}
use Rattle.measure.specs.Parts.{parts_of, depth_parts}
use Rattle.measure.specs.Thirds.{rounding_of_length, rounding_of_depth, Rounded, SignSays, divided}
use Rattle.measure.specs.Volumes.{hundredths}
use Rattle.measure.specs.Offsets.{middle_of, measured}
use Rattle.measure.specs.Roundings.{of_depths, PlaceByPlace, no_depths, depths_passed_on, passed_on, no_roundings, measured_offsets}
use Rattle.measure.specs.declared.units.Hundredths.{Hundredths}
use Rattle.measure.specs.declared.kinds.Kind.{Kind}
use Rattle.measure.specs.declared.kinds.Kind.TheVariants.{UnderDeck}
use Rattle.measure.proofs.Laws.Tests.{by_order}
use Rattle.measure.proofs.Laws.Rounding.{nearest_within, nearest_down}
use Rattle.measure.proofs.Laws.Parts.{parts_most}
use Rattle.measure.proofs.Laws.Offsets.{accepted_taken, taken_stations}
use Rattle.measure.proofs.Laws.Signed.{minus_above, minus_below}
use Rattle.measure_laws.proofs.Rounding.{nearest_only}

-- ---- a third interval and its rounding

-- the rounded number, b times, is below a or it isn't; either way within a half of b
pub rounded_is : (a b : ℕ) → 0 < b → Rounded a b (nearest a b) (pos (b * nearest a b) -ℤ pos a)
rounded_is a zero some = elim some [ ]
rounded_is a (suc b) some = by_order x a down up
  where
    x : ℕ
    x = suc b * nearest a (suc b)

    down : x < a → Rounded a (suc b) (nearest a (suc b)) (pos x -ℤ pos a)
    down below =
        let w = nearest_within a (suc b) some in
        rw (minus_below x a below)
        (record {
          comes_back = ap pos (omega arith);
          over_minus_a_half = record { lt = lt→ltb (suc (a - suc x + (a - suc x))) b (omega arith) };
          at_most_a_half = record { le = tt };
        })

    up : a ≤ x → Rounded a (suc b) (nearest a (suc b)) (pos x -ℤ pos a)
    up above =
        let w = nearest_within a (suc b) some in
        rw (minus_above x a above)
        (record {
          comes_back = minus_above x (x - a) (omega arith) ∙ ap pos (omega arith);
          over_minus_a_half = record { lt = tt };
          at_most_a_half = record { le = le→leb (x - a + (x - a)) (suc b) (omega arith) };
        })

-- and such a number is nearest, of which there is one
pub rounded_only : (a b r : ℕ) (z : ℤ) → 0 < b → Rounded a b r z → (r ≡ nearest a b) × (z ≡ pos (b * nearest a b) -ℤ pos a)
rounded_only a zero r z some h = elim some [ ]
rounded_only a (suc b) r (pos k) some h = by_order x k none up
  where
    x : ℕ
    x = suc b * r

    none : x < k → (r ≡ nearest a (suc b)) × (pos k ≡ pos (suc b * nearest a (suc b)) -ℤ pos a)
    none below = absurd (pos-ne-negsuc a _ (sym h.comes_back ∙ minus_below x k below))

    up : k ≤ x → (r ≡ nearest a (suc b)) × (pos k ≡ pos (suc b * nearest a (suc b)) -ℤ pos a)
    up above =
        let back : x - k ≡ a = ap nat_abs (sym (minus_above x k above) ∙ h.comes_back) in
        let half = leb→le (k + k) (suc b) h.at_most_a_half.le in
        let same = nearest_only a (suc b) r some (record { within_a_half = omega arith; half_goes_up = λ q. omega arith }) in
        (sym same, rw same (sym (minus_above x a (omega arith) ∙ ap pos (omega arith))))
rounded_only a (suc b) r (negsuc k) some h =
    let x = suc b * r in
    let back : x + suc k ≡ a = ap nat_abs h.comes_back in
    let half = ltb→lt (suc (k + k)) b h.over_minus_a_half.lt in
    let same = nearest_only a (suc b) r some (record { within_a_half = omega arith; half_goes_up = λ q. omega arith }) in
    (sym same, rw same (sym (minus_below x a (omega arith) ∙ ap negsuc (omega arith))))

-- ---- its sign

-- b divides a where the rounded number is a / b exactly, and there alone
exact_whole : (a b : ℕ) → 0 < b → (a ≡ b * nearest a b) ↔ (a % b ≡ 0)
exact_whole a b some = (divides, divided)
  where
    divides : a ≡ b * nearest a b → a % b ≡ 0
    divides e = ap (λ (k : ℕ). k % b) e ∙ mul-mod_right b (nearest a b)

    divided : a % b ≡ 0 → a ≡ b * nearest a b
    divided none =
        let split = div-add-mod' a b in
        let same = nearest_down a b (omega arith) in
        omega (arith, mul_comm b (nearest a b), ap (λ (q : ℕ). q * b) same)

pub sign_says : (a b : ℕ) → 0 < b → SignSays a b (nearest a b) (pos (b * nearest a b) -ℤ pos a)
sign_says a b some = by_order x a down up
  where
    x : ℕ
    x = b * nearest a b

    down : x < a → SignSays a b (nearest a b) (pos x -ℤ pos a)
    down less =
        let other : (a ≡ x) → ⊥ = λ z. omega arith in
        rw (minus_below x a less)
        (record {
          rounded_up = (λ h. absurd h.lt, λ h. absurd (omega arith));
          exact = (λ z. absurd (pos-ne-negsuc 0 _ (sym z)), λ z. absurd (other z));
          below = (λ h. less, λ h. record { lt = tt });
          whole = (λ z. absurd (pos-ne-negsuc 0 _ (sym z)), λ z. absurd (other ((exact_whole a b some).1 z)));
        })

    up : a ≤ x → SignSays a b (nearest a b) (pos x -ℤ pos a)
    up above =
        let zero_is : (pos (x - a) ≡ pos 0) → (a ≡ x) = λ z. let none : x - a ≡ 0 = ap nat_abs z in omega arith in
        let is_zero : (a ≡ x) → (pos (x - a) ≡ pos 0) = λ z. ap pos (omega arith) in
        rw (minus_above x a above)
        (record {
          rounded_up = (λ h. let some_more = ltb→lt 0 (x - a) h.lt in omega arith, λ h. record { lt = lt→ltb 0 (x - a) (omega arith) });
          exact = (zero_is, is_zero);
          below = (λ h. absurd (omega (arith, ltb→lt (x - a) 0 h.lt)), λ h. absurd (omega arith));
          whole = (λ z. (exact_whole a b some).0 (zero_is z), λ z. is_zero ((exact_whole a b some).1 z));
        })

-- ---- of the depths at stations, a place at a time

pub depths_are : (m : ℕ) (depths : List ℕ) → length depths ≤ 17 → PlaceByPlace m depths (of_depths m depths)
unfolding of_depths
depths_are m depths few =
    record {
      seventeen = omega (arith, length-append (map of depths) left, length-map depths of, length-replicate (17 - length depths) (pos 0));
      at_a_station = at_a_station depths;
      elsewhere = elsewhere depths;
    }
  where
    of : ℕ → ℤ
    of d = rounding_of_depth (hundredths d) m

    left : List ℤ
    left = replicate (17 - length depths) (pos 0)

    at_a_station : (ds : List ℕ) (i : ℕ) → i < length ds → get_or (map of ds ++ left) i (pos 0) ≡ of (get_or ds i 0)
    at_a_station [] i h = absurd (omega arith)
    at_a_station (d ∷ ds) zero h = refl
    at_a_station (d ∷ ds) (suc i) h = at_a_station ds i (omega arith)

    zeros : (n i : ℕ) → get_or (replicate n (pos 0)) i (pos 0) ≡ pos 0
    zeros zero i = refl
    zeros (suc n) zero = refl
    zeros (suc n) (suc i) = zeros n i

    elsewhere : (ds : List ℕ) (i : ℕ) → length ds ≤ i → get_or (map of ds ++ left) i (pos 0) ≡ pos 0
    elsewhere [] i h = zeros (17 - length depths) i
    elsewhere (d ∷ ds) zero h = absurd (omega arith)
    elsewhere (d ∷ ds) (suc i) h = elsewhere ds i (omega arith)

pub depths_only : (m : ℕ) (depths : List ℕ) (found : List ℤ) → length depths ≤ 17 → PlaceByPlace m depths found → found ≡ of_depths m depths
depths_only m depths found few p =
    let d = depths_are m depths few in
    ext_get_or (pos 0) found (of_depths m depths) (p.seventeen ∙ sym d.seventeen) (λ i h.
    by_order i (length depths) (λ there. p.at_a_station i there ∙ sym (d.at_a_station i there)) (λ past. p.elsewhere i past ∙ sym (d.elsewhere i past)))

-- ---- what a space passes on

-- of a space whose length is divided, the rounding of its length
pub length_passed_on : (k : Kind) (t l : Hundredths) (hs : List ℕ) → 0 < parts_of k t l → (passed_on k t l hs).length ≡ rounding_of_length l (parts_of k t l)
unfolding passed_on divided
length_passed_on k t l hs some = simp (ne_eqb (parts_of k t l) 0 (λ none. omega arith))

-- of a space that has no other, that alone
pub length_alone : (k : Kind) (t l : Hundredths) (hs : List ℕ) → depths_passed_on k hs ≡ no_depths → 0 < parts_of k t l
    → passed_on k t l hs ≡ record { length = rounding_of_length l (parts_of k t l); depths = no_depths }
unfolding passed_on divided
length_alone k t l hs none some = rw none (ap (λ (z : ℤ). record { length = z; depths = no_depths }) (length_passed_on k t l hs some))

-- of a U that of every station's depth
pub depths_passed_on_lem : (t l : Hundredths) (hs bs : List ℕ) → (measured 1 t l hs bs).number ≡ 0
    → PlaceByPlace (depth_parts (middle_of hs)) hs (passed_on UnderDeck t l hs).depths
unfolding kind_of passed_on
depths_passed_on_lem t l hs bs accepted =
    let count = taken_stations UnderDeck t l hs bs (accepted_taken 1 t l hs bs accepted) in
    depths_are (depth_parts (middle_of hs)) hs (omega (arith, count, parts_most UnderDeck t l))

-- and refused offsets none
pub none_passed_on : (code : ℕ) (t l : Hundredths) (hs bs : List ℕ) → ((measured code t l hs bs).number ≡ 0 → ⊥)
    → (measured_offsets code t l hs bs).roundings ≡ no_roundings
unfolding measured_offsets
none_passed_on code t l hs bs refused = simp (ne_eqb _ 0 refused)
