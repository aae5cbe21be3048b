-- "No volume is taken off twice": of two spaces that aren't plain neither is anywhere above the other, and E + D + M is not more than T.
-- Stands on Valid, Standings.
use Rattle.std.proofs.Common.{ℕ, zero, suc, ◌+◌, ◌≤◌, ◌≡◌, refl, sym, ap, ◌∙◌, Bool, true, false, not, ◌&&◌, List, ◌∷◌, Some, arith, eqb}
use Rattle.measure.specs.declared.units.Hundredths.{Hundredths}
use Rattle.spaces.specs.declared.space.Space.{Space}
use Rattle.spaces.specs.declared.sums.Amount.TheVariants.{Inside, Hull, Exempt, Ballast, Deducted, Machinery}
use Rattle.spaces.specs.Space.{is_hatchway, is_room, is_plain}
use Rattle.spaces.specs.Row.{only, amount_of, sum_by, sum_of}
use Rattle.spaces.specs.Enclosure.{enclosing, above, all_plain, below}
use Rattle.standard.specs.Standings.{greatest_standing}
use Rattle.standard.specs.Valid.{Valid}
use Rattle.spaces.proofs.Laws.Cases.{by_test, not_both}
use Rattle.spaces_laws.specs.Above.{◌∈◌, Above}
use Rattle.spaces_laws.specs.Sound.{Sound}
use Rattle.spaces_laws.specs.Gross.{taken_off, taken_tons}
use Rattle.spaces_laws.proofs.Tests.{and_holds, and_holds_of, and_fails_of}
use Rattle.spaces_laws.proofs.Lists.{found_stands, only_at_most, sum_at_most, sum_same, sum_of_sums, one_within_sum, sum_of_none, sums_exchange, inside_adds}
use Rattle.spaces_laws.proofs.Walk.{enclosing_of_room, enclosing_stands, above_exactly, above_of_room, upward_stands, plain_of_all, all_plain_of, below_exactly}
use Rattle.spaces_laws.proofs.Valid.{same_by_id, valid_is_sound}
use Rattle.spaces_laws.proofs.Standings.{may_take_is, standing_at_most, Kinded, hull, hatchway, room, kinded}

-- what is anywhere above a space that isn't plain is plain
pub plain_anywhere_above : {L : Hundredths} {xs : List Space} → Valid L xs → {y z : Space} → y ∈ xs → is_plain y ≡ false → Above xs y z → is_plain z ≡ true
plain_anywhere_above {L} {xs} v {y} {z} m p a =
    let o = (valid_is_sound v).member y m in
    plain_of_all (o.plain_above p) ((above_exactly xs y z o.level_at_most).1 a)

-- "of two standing spaces that aren't plain neither is anywhere above the other"
pub neither_above_the_other : {L : Hundredths} {xs : List Space} → Valid L xs → {y z : Space} → y ∈ xs → z ∈ xs → is_plain y ≡ false → is_plain z ≡ false
    → (Above xs y z → ⊥) × (Above xs z y → ⊥)
neither_above_the_other v m n p q = (
  λ a. not_both (plain_anywhere_above v m p a) q,
  λ a. not_both (plain_anywhere_above v n q a) p,
)

-- so "none that isn't plain anywhere above or below it"
pub all_plain_below : {L : Hundredths} {xs : List Space} → Valid L xs → {y : Space} → y ∈ xs → is_plain y ≡ false → all_plain (below y.id xs) ≡ true
unfolding above
all_plain_below {L} {xs} v {y} m p = all_plain_of (below y.id xs) plain
  where
    plain : (t : Space) → t ∈ below y.id xs → is_plain t ≡ true
    plain t k =
        let s = valid_is_sound v in
        let (t-stands, (z, over, same)) = (below_exactly y.id xs t).0 k in
        let e : y ≡ z = same_by_id y.id (s.member z (upward_stands 8 xs t z over)) (s.member y m).found same in
        by_test (is_plain t) (λ q. q) (λ q. not_both (ap is_plain e ∙ plain_of_all ((s.member t t-stands).plain_above q) over) p)

-- ---- E + D + M ≤ T, by counting twice. At each space, what is taken off there and what it has clear are no more than its tonnage as hull or
-- as a room under clear spaces; and such rooms are shares of clear spaces, which hold no more than their own.

-- a space that is plain with all above it, and no hatchway
abbrev clear : List Space → Space → Bool
clear xs z = not (is_hatchway z) && (is_plain z && all_plain (above xs z))

abbrev clear_tons : List Space → Space → ℕ
clear_tons xs z = only (clear xs z) z.tonnage

-- a room that has only plain spaces above it
abbrev under_clear : List Space → Space → ℕ
under_clear xs y = only (is_room y && all_plain (above xs y)) y.tonnage

-- what a room y is of z, its enclosing space, where that is clear
abbrev share : List Space → Space → Space → ℕ
share xs z y = only (clear xs z) (amount_of (Inside z.id) y)

-- a space that is taken off isn't clear
taken_or_clear : (plain dry open_above : Bool) (n : ℕ) → only (not plain) n + only (dry && (plain && open_above)) n ≤ n
taken_or_clear true dry open_above n = omega (arith, only_at_most (dry && open_above) n)
taken_or_clear false true open_above n = omega arith
taken_or_clear false false open_above n = omega arith

module _ (xs : List Space) (y : Space) where
  either_or : taken_tons y + clear_tons xs y ≤ y.tonnage
  either_or = taken_or_clear (is_plain y) (not (is_hatchway y)) (all_plain (above xs y)) y.tonnage

  none_taken : is_plain y ≡ true → taken_tons y ≡ 0
  none_taken p = rw p

  not_clear : all_plain (above xs y) ≡ false → clear_tons xs y ≡ 0
  not_clear e =
      let n : clear xs y ≡ false = and_fails_of (not (is_hatchway y)) _ (λ _. and_fails_of (is_plain y) (all_plain (above xs y)) (λ _. e)) in
      rw n

  under_clear_lem : is_room y ≡ true → all_plain (above xs y) ≡ true → under_clear xs y ≡ y.tonnage
  under_clear_lem r e = let t = and_holds_of (is_room y) (all_plain (above xs y)) r e in rw t

  taken_of_kind : (is_plain y ≡ false → all_plain (above xs y) ≡ true) → Kinded y.kind y.standing
      → taken_tons y + clear_tons xs y ≤ amount_of Hull y + under_clear xs y
  taken_of_kind plain_above_lem (hull t) = let h : amount_of Hull y ≡ y.tonnage = rw t in omega (arith, either_or)
  taken_of_kind plain_above_lem (hatchway t p) = let h : clear_tons xs y ≡ 0 = rw t in omega (arith, none_taken p)
  taken_of_kind plain_above_lem (room r) =
      by_test (all_plain (above xs y))
      (λ e. omega (arith, under_clear_lem r e, either_or))
      (λ e. omega (arith, none_taken (by_test (is_plain y) (λ p. p) (λ p. not_both (plain_above_lem p) e)), not_clear e))

module _ (L : Hundredths) (xs : List Space) (s : Sound L xs) where
  taken_at : (y : Space) → y ∈ xs → taken_tons y + clear_tons xs y ≤ amount_of Hull y + under_clear xs y
  taken_at y m = let o = s.member y m in taken_of_kind xs y o.plain_above (kinded (may_take_is y.kind y.standing o.may_take))

  -- a room's enclosing space is clear where all above the room are plain
  home_clear : (y : Space) (m : y ∈ xs) (r : is_room y ≡ true) → all_plain (above xs y) ≡ true → clear xs ((s.member y m).enclosed r).home ≡ true
  home_clear y m r e =
      let o = s.member y m in
      let z = (o.enclosed r).home in
      let h : enclosing xs y ≡ Some z = enclosing_of_room xs y r ∙ (o.enclosed r).home_stands in
      let u : above xs y ≡ z ∷ above xs z = above_of_room xs y h (s.member z (enclosing_stands xs y h)).level_at_most in
      and_holds_of _ _ (ap not (o.enclosed r).no_hatchway) (rw u at e)

  -- a room under clear spaces is a share of its enclosing space
  shared : (y : Space) → y ∈ xs → under_clear xs y ≤ sum_by (λ z. share xs z y) xs
  shared y m =
      by_test (is_room y && all_plain (above xs y))
      (λ t.
      let b = and_holds _ _ t in
      let h = (s.member y m).enclosed b.0 in
      let f = found_stands y.within xs {z = h.home} h.home_stands in
      let c : share xs h.home y ≡ y.tonnage = rw (home_clear y m b.0 b.1) (inside_adds h.home.id y.tonnage y b.0 (sym f.1)) in
      rw t (omega (arith, one_within_sum (λ z. share xs z y) f.0)))
      (λ f. rw f (omega arith))

  shares_fit : (z : Space) → z ∈ xs → sum_by (λ y. share xs z y) xs ≤ clear_tons xs z
  shares_fit z m =
      by_test (clear xs z) (λ t. rw t (s.member z m).rooms_fit) (λ f. rw f (omega (arith, sum_of_none (λ y. 0) xs (λ y k. refl))))

  taken_within_hull : sum_by taken_tons xs ≤ sum_of Hull xs
  taken_within_hull =
      omega (
        arith,
        sum_at_most (λ y. taken_tons y + clear_tons xs y) (λ y. amount_of Hull y + under_clear xs y) xs taken_at,
        sum_of_sums taken_tons (clear_tons xs) xs,
        sum_of_sums (amount_of Hull) (under_clear xs) xs,
        sum_at_most (under_clear xs) (λ y. sum_by (λ z. share xs z y) xs) xs shared,
        sums_exchange (share xs) xs xs,
        sum_at_most (λ z. sum_by (λ y. share xs z y) xs) (clear_tons xs) xs shares_fit,
      )

-- E, D and M count each space that isn't plain once, and no plain one: there is no standing over 4
taken_once : (standing n : ℕ) → standing ≤ greatest_standing
    → only (eqb standing 1) n + only (eqb standing 2) n + only (eqb standing 3) n + only (eqb standing 4) n ≡ only (not (eqb standing 0)) n
taken_once zero n h = refl
taken_once (suc zero) n h = omega arith
taken_once (suc (suc zero)) n h = omega arith
taken_once (suc (suc (suc zero))) n h = omega arith
taken_once (suc (suc (suc (suc zero)))) n h = omega arith
taken_once (suc (suc (suc (suc (suc s))))) n h = absurd (omega arith)

-- so what is taken off is just what isn't plain
pub taken_off_is : {L : Hundredths} {xs : List Space} → Valid L xs → taken_off xs ≡ sum_by taken_tons xs
taken_off_is {L} {xs} v =
    omega (
      arith,
      sum_of_sums (amount_of Exempt) (amount_of Ballast) xs,
      sum_of_sums exempt (amount_of Deducted) xs,
      sum_of_sums (λ y. exempt y + amount_of Deducted y) (amount_of Machinery) xs,
      sum_same (λ y. exempt y + amount_of Deducted y + amount_of Machinery y) taken_tons xs once,
    )
  where
    exempt : Space → ℕ
    exempt y = amount_of Exempt y + amount_of Ballast y

    once : (y : Space) → y ∈ xs → exempt y + amount_of Deducted y + amount_of Machinery y ≡ taken_tons y
    once y m = taken_once y.standing y.tonnage (standing_at_most y.kind y.standing ((valid_is_sound v).member y m).may_take)

-- "that no volume is taken off twice now asks that E + D + M is not more than T" (T-06 of document 02)
pub taken_off_at_most_whole : {L : Hundredths} {xs : List Space} → Valid L xs → taken_off xs ≤ sum_of Hull xs
taken_off_at_most_whole {L} {xs} v = omega (arith, taken_off_is v, taken_within_hull L xs (valid_is_sound v))
