-- The zones of influence fill the length, each with its station; every point of the U lies in the zone that `zone_of` gives, in the next too
-- where `between` says so, and in no other.
use Rattle.std.proofs.Common.{◌≡◌, refl, sym, ap, subst, ◌∙◌, Bool, true, false, cond, ◌||◌, ◌⊎◌, inl, inr, ⊎_elim, ℕ, zero, suc, ◌+◌, ◌-◌, ◌*◌, ◌%◌, ◌≤◌, ◌<◌, le_refl, le_of_eq, le_of_lt, le_antisymm, eq-or-lt_of_le, eq-zero-or-pos, add-zero, add-suc, zero-mul, mul_assoc, mul_comm, mul-pos, mul-le-mul_right, mul-lt-mul_of_pos_right, add-one, arith, eqb-true, eq-eqb, ltb-true, ltb-false, lit≤, eqb}
use Rattle.measure.specs.Parts.{EvenParts}
use Rattle.measure.specs.Multipliers.{multiplier, Counts, first_once, last_once, even_four_times, other_odd_twice}
use Rattle.measure.specs.Zones.{zone_start, zone_end, Point, meets, before, end_at, end_met, between, ends_before, zone_of}
use Rattle.measure.specs.declared.units.Hundredths.{Hundredths}
use Rattle.measure.proofs.Laws.Parts.{chosen}
use Rattle.measure.proofs.Laws.Multipliers.{zones_fill}
use Rattle.measure_laws.specs.Zones.{FillTheLength, OfU, LiesIn, AtInnerEnd, Zoned}
use Rattle.measure_laws.proofs.Classes.{multiplier_is}

-- ---- where zones end

multiplier_some : (n k : ℕ) → 1 ≤ multiplier n k
unfolding multiplier
multiplier_some n k =
    chosen (λ x. 1 ≤ x) (eqb k 1) (lit≤ tt)
    (chosen (λ x. 1 ≤ x) (eqb k (n + 1)) (lit≤ tt)
    (chosen (λ x. 1 ≤ x) (eqb (k % 2) 0) (lit≤ tt) (lit≤ tt)))

ends_apart : (n k i : ℕ) → zone_end n k + i ≤ zone_end n (k + i)
ends_apart n k zero = rw (add-zero k) (omega arith)
ends_apart n k (suc i) = rw (add-suc k i) (omega (arith, ends_apart n k i, multiplier_some n (suc (k + i))))

ends_rise : (n k j : ℕ) → k ≤ j → zone_end n k + (j - k) ≤ zone_end n j
ends_rise n k j h =
    let e : k + (j - k) ≡ j = omega arith in
    rw e at (ends_apart n k (j - k))

ends_in_order : (n k j : ℕ) → k < j → zone_end n k < zone_end n j
ends_in_order n k j h = omega (arith, ends_rise n k j (le_of_lt h))

-- between the first and the last the even ones count four times and the odd ones twice
inner_multiplier : (n k : ℕ) → 1 < k → k < n + 1 → multiplier n k + 2 * (k % 2) ≡ 4
inner_multiplier n k lo hi = by (multiplier_is n k (omega arith) (omega arith))
  where
    by : {times : ℕ} → Counts n k times → times + 2 * (k % 2) ≡ 4
    by (first_once e) = absurd (omega arith)
    by (last_once e) = absurd (omega arith)
    by (even_four_times a b e) = omega arith
    by (other_odd_twice a b e) = omega arith

-- every end but the last: 1, 5, 7, 11, 13, .., 3 k - 2 for odd k and 3 k - 1 for even
pub inner_end : (n k : ℕ) → 1 ≤ k → k ≤ n → zone_end n k + k % 2 + 1 ≡ 3 * k
unfolding multiplier
inner_end n zero lo hi = omega arith
inner_end n (suc zero) lo hi = refl
inner_end n (suc (suc k)) lo hi =
    omega (arith, inner_end n (suc k) (omega arith) (omega arith), inner_multiplier n (suc (suc k)) (omega arith) (omega arith))

-- a station lies after the end before its zone, and before its own
start_before : (n k : ℕ) → k ≤ n → zone_end n k ≤ 3 * k
start_before n zero h = le_refl 0
start_before n (suc k) h = omega (arith, inner_end n (suc k) (omega arith) h)

end_behind : {n : ℕ} → EvenParts n → (k : ℕ) → k ≤ n → 3 * k ≤ zone_end n (k + 1)
end_behind {n} p k h =
    ⊎_elim
    (λ (e : k ≡ n). omega (arith, ap (λ (i : ℕ). zone_end n (i + 1)) e, zones_fill p))
    (λ (lt : k < n). omega (arith, inner_end n (k + 1) (omega arith) (omega arith)))
    (eq-or-lt_of_le h)

start_is : (n k : ℕ) → zone_start n (k + 1) ≡ zone_end n k
start_is n k = ap (zone_start n) (add-one k)

pub fill_the_length : {n : ℕ} → EvenParts n → FillTheLength n
fill_the_length {n} p =
    record {
      from_the_fore_end = refl;
      each_where_one_ends = start_is n;
      to_the_aft_end = zones_fill p;
      none_empty = λ k. omega (arith, start_is n k, ends_in_order n k (k + 1) (omega arith));
      with_its_station = λ k h. record { from = omega (arith, start_is n k, start_before n k h); upto = omega (arith, end_behind p k h) };
    }

-- ---- in which zones a point lies

module _ (n : ℕ) (u : Hundredths) (x : Point) where
  -- the point and a third of an interval as whole numbers
  abbrev point : ℕ
  point = x.over * (3 * n)

  abbrev third : ℕ
  third = u.0 * x.under

  end_is : (k : ℕ) → zone_end n k * u.0 * x.under ≡ zone_end n k * third
  end_is k = mul_assoc (zone_end n k) u.0 x.under

  met_at : (k : ℕ) → k ≤ n → end_met n u x k ≡ true → AtInnerEnd n u x
  met_at zero h e = let z : ◌≡◌ {A = ℕ} 0 1 = cc in absurd (omega arith)
  met_at (suc k) h e = by (meets x (end_at n u (suc k))) refl (met_at k (omega arith)) e
    where
      by : (t : Bool) → meets x (end_at n u (suc k)) ≡ t → (end_met n u x k ≡ true → AtInnerEnd n u x) → (t || end_met n u x k) ≡ true → AtInnerEnd n u x
      by true q earlier e = record { number = suc k; least = omega arith; not_last = h; equals = q }
      by false q earlier e = earlier e

  at_met : (i k : ℕ) → 1 ≤ i → i ≤ k → meets x (end_at n u i) ≡ true → end_met n u x k ≡ true
  at_met i zero lo hi e = absurd (omega arith)
  at_met i (suc k) lo hi e =
      ⊎_elim
      (λ (q : i ≡ suc k). rw (subst (λ (m : ℕ). meets x (end_at n u m) ≡ true) q e))
      (λ (h : i < suc k). rw (at_met i k lo (omega arith) e) (or_true (meets x (end_at n u (suc k)))))
      (eq-or-lt_of_le hi)
    where
      or_true : (t : Bool) → (t || true) ≡ true
      or_true true = refl
      or_true false = refl

  -- "between two zones where that equals, as fractions, the end of a zone that isn't the last"
  pub between_is : between n u x ≡ true → AtInnerEnd n u x
  unfolding between
  between_is = met_at n (le_refl n)

  pub between_only : AtInnerEnd n u x → between n u x ≡ true
  unfolding between
  between_only r = at_met r.number n r.least r.not_last r.equals

  pub not_between : ((k : ℕ) → 1 ≤ k → k ≤ n → point ≡ zone_end n k * third → ⊥) → between n u x ≡ false
  not_between never = by (between n u x) refl
    where
      by : (t : Bool) → between n u x ≡ t → t ≡ false
      by true e = let r = between_is e in absurd (never r.number r.least r.not_last (eqb-true _ _ r.equals ∙ end_is r.number))
      by false e = refl

  -- of the first k ends b lie before the point, and they are the first b
  record FirstBefore (k b : ℕ) : Type 0 where
    at_most : b ≤ k
    past : 0 < b → zone_end n b * third < point
    not_past : b < k → point ≤ zone_end n (b + 1) * third

  one_more : (k b : ℕ) → FirstBefore k b → zone_end n (suc k) * third < point → FirstBefore (suc k) (b + 1)
  one_more k b r h =
      let all : b ≡ k =
      ⊎_elim
      (λ (e : b ≡ k). e)
      (λ (lt : b < k).
      let order = mul-le-mul_right third (le_of_lt (ends_in_order n (b + 1) (suc k) (omega arith))) in
      absurd (omega (arith, r.not_past lt)))
      (eq-or-lt_of_le r.at_most)
      in
      let e : suc k ≡ b + 1 = omega arith in
      record { at_most = le_of_eq (sym e); past = λ _. subst (λ (i : ℕ). zone_end n i * third < point) e h; not_past = λ lt. absurd (omega arith) }

  no_more : (k b : ℕ) → FirstBefore k b → point ≤ zone_end n (suc k) * third → FirstBefore (suc k) b
  no_more k b r h =
      record {
        at_most = omega (arith, r.at_most);
        past = r.past;
        not_past = λ lt.
            ⊎_elim
            (λ (e : b ≡ k). rw (e, add-one k) h)
            (λ (g : b < k). r.not_past g)
            (eq-or-lt_of_le r.at_most);
      }

  first_before : (k : ℕ) → FirstBefore k (ends_before n u x k)
  first_before zero = record { at_most = le_refl 0; past = λ h. absurd (omega arith); not_past = λ h. absurd (omega arith) }
  first_before (suc k) = by (before (end_at n u (suc k)) x) refl (first_before k)
    where
      by : (t : Bool) → before (end_at n u (suc k)) x ≡ t → FirstBefore k (ends_before n u x k) → FirstBefore (suc k) (ends_before n u x k + cond t 1 0)
      by true q r = one_more k (ends_before n u x k) r (omega (arith, ltb-true (zone_end n (suc k) * u.0 * x.under) point q, end_is (suc k)))
      by false q r = rw (add-zero (ends_before n u x k)) (no_more k (ends_before n u x k) r (omega (arith, ltb-false (zone_end n (suc k) * u.0 * x.under) point q, end_is (suc k))))

  -- the end of a zone lies in it and in the next
  end_in_both : (k : ℕ) → 1 ≤ k → point ≡ zone_end n k * third → LiesIn n u x k × LiesIn n u x (k + 1)
  end_in_both zero lo e = absurd (omega arith)
  end_in_both (suc k) lo e =
      let after = mul-le-mul_right third (le_of_lt (ends_in_order n (suc k) (suc k + 1) (omega arith))) in
      let before = mul-le-mul_right third (le_of_lt (ends_in_order n k (suc k) (omega arith))) in
      (record { from = omega arith; upto = le_of_eq e }, record { from = rw (start_is n (suc k)) (le_of_eq (sym e)); upto = omega arith })

  -- how many ends of zones lie before it
  abbrev behind : ℕ
  behind = ends_before n u x n

  module _ (even : EvenParts n) (of_u : OfU u x) where
    some_third : 0 < third
    some_third = mul-pos of_u.has_length of_u.a_fraction

    zone_holds : LiesIn n u x (behind + 1)
    zone_holds =
        let r = first_before n in
        record {
          from =
              rw (start_is n behind)
              (⊎_elim
              (λ (e : behind ≡ 0). omega (arith, ap (λ (i : ℕ). zone_end n i * third) e, zero-mul third))
              (λ (h : 0 < behind). le_of_lt (r.past h))
              (eq-zero-or-pos behind));
          upto =
              ⊎_elim
              (λ (e : behind ≡ n). rw (e, zones_fill even) (omega (arith, mul-le-mul_right (3 * n) of_u.not_past, mul_comm third (3 * n))))
              (λ (h : behind < n). r.not_past h)
              (eq-or-lt_of_le r.at_most);
        }

    -- no earlier zone holds it, and a later one only where it is between the two
    not_earlier : (j : ℕ) → 1 ≤ j → LiesIn n u x j → behind + 1 ≤ j
    not_earlier j lo h =
        ⊎_elim
        (λ (e : behind + 1 - j ≡ 0). omega arith)
        (λ (h' : 0 < behind + 1 - j).
        let order : zone_end n j ≤ zone_end n behind = omega (arith, ends_rise n j behind (omega arith)) in
        absurd (omega (arith, (first_before n).past (omega arith), h.upto, mul-le-mul_right third order)))
        (eq-zero-or-pos (behind + 1 - j))

    not_later : (j : ℕ) → behind + 1 < j → j ≤ n + 1 → LiesIn n u x j → (j ≡ behind + 1 + 1) × (between n u x ≡ true)
    not_later zero lt hi h = absurd (omega arith)
    not_later (suc i) lt hi h =
        let not_past = (first_before n).not_past (omega arith) in
        ⊎_elim
        (λ (e : behind + 1 ≡ i).
        let at-end : point ≡ zone_end n i * third = le_antisymm (rw e at not_past) h.from in
        (omega arith, between_only (record { number = i; least = omega arith; not_last = omega arith; equals = eq-eqb _ _ (at-end ∙ sym (end_is i)) })))
        (λ (far : behind + 1 < i). absurd (omega (arith, h.from, mul-lt-mul_of_pos_right (ends_in_order n (behind + 1) i far) some_third)))
        (eq-or-lt_of_le (omega arith))

    in_no_other : (j : ℕ) → 1 ≤ j → j ≤ n + 1 → LiesIn n u x j → (j ≡ behind + 1) ⊎ ((j ≡ behind + 1 + 1) × (between n u x ≡ true))
    in_no_other j lo hi h =
        ⊎_elim
        (λ (e : behind + 1 ≡ j). inl (sym e))
        (λ (lt : behind + 1 < j). inr (not_later j lt hi h))
        (eq-or-lt_of_le (not_earlier j lo h))

    in_the_next : between n u x ≡ true → (behind + 1 + 1 ≤ n + 1) × LiesIn n u x (behind + 1 + 1)
    in_the_next e =
        let r = between_is e in
        let i = r.number in
        let lo = r.least in
        let hi = r.not_last in
        let (here, next) = end_in_both i lo (eqb-true _ _ r.equals ∙ end_is i) in
        let q : i ≡ behind + 1 =
        ⊎_elim
        (λ (q : i ≡ behind + 1). q)
        (λ later.
        ⊎_elim
        (λ (q : i + 1 ≡ behind + 1). absurd (omega (arith, later.0)))
        (λ last. absurd (omega (arith, later.0, last.0)))
        (in_no_other (i + 1) (omega arith) (omega arith) next))
        (in_no_other i lo (omega arith) here)
        in
        (omega arith, rw q at next)

    pub zoned : Zoned n u x (zone_of n u x) (between n u x)
    unfolding zone_of
    zoned =
        record {
          is_zone = (omega arith, omega (arith, (first_before n).at_most));
          in_it = zone_holds;
          in_the_next = in_the_next;
          in_no_other = in_no_other;
        }

    -- the U's own ends are between no zones
    pub fore_end_alone : x.over ≡ 0 → between n u x ≡ false
    fore_end_alone e =
        not_between (λ k lo hi at-end.
        let some_end : 0 < zone_end n k = omega (arith, ends_in_order n 0 k lo) in
        omega (arith, at-end, mul-pos some_end some_third, ap (λ (y : ℕ). y * (3 * n)) e, zero-mul (3 * n)))

    pub aft_end_alone : x.over ≡ u.0 * x.under → between n u x ≡ false
    aft_end_alone e =
        not_between (λ k lo hi at-end.
        let inner : zone_end n k < 3 * n = omega (arith, ends_in_order n k (n + 1) (omega arith), zones_fill even) in
        omega (arith, at-end, mul-lt-mul_of_pos_right inner some_third, ap (λ (y : ℕ). y * (3 * n)) e, mul_comm third (3 * n)))

pub zoned_only : (n : ℕ) (u : Hundredths) (x : Point) (k j : ℕ) (two two' : Bool) → Zoned n u x k two → Zoned n u x j two' → (k ≡ j) × (two ≡ two')
zoned_only n u x k j two two' r s =
    let low = in_order j k s r in
    let high = in_order k j r s in
    (le_antisymm low high, same two two' (next k j two two' r s high) (next j k two' two s r low))
  where
    in_order : (k j : ℕ) {two two' : Bool} → Zoned n u x k two → Zoned n u x j two' → j ≤ k
    in_order k j r s =
        ⊎_elim (λ (e : k ≡ j). le_of_eq (sym e)) (λ later. omega (arith, later.0)) (s.in_no_other k r.is_zone.0 r.is_zone.1 r.in_it)

    next : (k j : ℕ) (two two' : Bool) → Zoned n u x k two → Zoned n u x j two' → j ≤ k → two ≡ true → two' ≡ true
    next k j two two' r s le e =
        let (hi, h) = r.in_the_next e in
        ⊎_elim (λ (q : k + 1 ≡ j). absurd (omega arith)) (λ later. later.1) (s.in_no_other (k + 1) (omega arith) hi h)

    same : (a b : Bool) → (a ≡ true → b ≡ true) → (b ≡ true → a ≡ true) → a ≡ b
    same true b there back = sym (there refl)
    same false true there back = back refl
    same false false there back = refl
