-- What is around each of some records, by places and running sums; and the row of it, one record more. Stands on Places, Before.
use Rattle.std.proofs.Common.{ℕ, zero, suc, ◌+◌, ◌-◌, ◌*◌, ◌^◌, ◌≤◌, ◌<◌, min, ◌≡◌, refl, sym, ap, ap₂, ◌∙◌, subst, cond, List, [], ◌∷◌, ◌++◌, append-nil, arith, eqb-true, ltb-true, ltb-false, lt-ltb, le-ltb, eqb, ltb, length, take, get_or, set, replicate, length-set, length-take-le, get_or-set_same, get_or-set_other, take_all}
use native.Mathlib.Nat.{min-eq_left, min-eq_right}
use borrow.Author.Tests.{eqb-false}
use lib.ListN.{length-replicate, get_or-replicate, get_or-append}
use lib.Seq.{append_snoc}
use Rattle.measure.proofs.Laws.Lists.{filled_more}
use Rattle.spaces.specs.Space.{empty_space, is_room}
use Rattle.spaces.specs.Row.{place_of, stands, amount_of, sum_of}
use Rattle.spaces.specs.Enclosure.{upward, above, walked}
use Rattle.spaces.specs.Around.{enclosing_place, beside_of, around_of, around_from, blank_around, each_around}
use Rattle.spaces.specs.declared.space.Space.{Space}
use Rattle.spaces.specs.declared.sums.Amount.{Amount}
use Rattle.spaces.specs.declared.sums.Amount.TheVariants.{Inside, Lengths}
use Rattle.spaces.specs.declared.enclosure.Above.{Above}
use Rattle.spaces.specs.declared.around.Around.{Around}
use Rattle.spaces.proofs.Laws.Cases.{by_test}
use Rattle.spaces.proofs.Laws.Row.{one_passed, sum_append}
use Rattle.spaces.proofs.Laws.Places.{one_id_at, home_within}
use Rattle.spaces.proofs.Laws.Before.{stands_before, place_before}

-- ---- running sums: the rooms inside each place, and the lengths of all U, of the first i

pub record Summed (xs : List Space) (i : ℕ) (inside : List ℕ) (lengths : ℕ) : Type 0 where
  pub size : length inside ≡ 201
  pub rooms : (w : ℕ) → place_of w xs < length xs → get_or inside (place_of w xs) 0 ≡ sum_of (Inside w) (take i xs)
  pub decks : lengths ≡ sum_of Lengths (take i xs)
  pub rooms_bounded : (p : ℕ) → p < 201 → get_or inside p 0 ≤ 2 ^ 32 * i
  pub decks_bounded : lengths ≤ 2 ^ 32 * i

pub nothing_summed : (xs : List Space) → length xs ≤ 200 → Summed xs 0 (replicate 201 0) 0
nothing_summed xs h =
    record {
      size = length-replicate {A = ℕ} 201 0;
      rooms = λ w l. get_or-replicate {A = ℕ} 201 (place_of w xs) 0 0 (omega arith);
      decks = refl;
      rooms_bounded = λ p l. omega (arith, get_or-replicate {A = ℕ} 201 p 0 0 l);
      decks_bounded = omega arith;
    }

-- one record more
sum_more : (a : Amount) (xs : List Space) (i : ℕ) → i < length xs → sum_of a (take (i + 1) xs) ≡ sum_of a (take i xs) + amount_of a (get_or xs i empty_space)
sum_more a xs i h =
    ap (sum_of a) (sym (one_passed xs i h)) ∙ sum_append (amount_of a) (take i xs) (get_or xs i empty_space ∷ []) ∙ omega arith

-- one record more, at the place of its enclosing space
module _ (xs : List Space) (i : ℕ) (inside : List ℕ) (lengths : ℕ) (s : Summed xs i inside lengths) (h : i < length xs) (most : length xs ≤ 200) where
  abbrev x : Space
  x = get_or xs i empty_space

  abbrev home : ℕ
  home = enclosing_place xs x

  abbrev weight : ℕ
  weight = amount_of (Inside x.within) x

  abbrev after : List ℕ
  after = set inside home (get_or inside home 0 + weight)

  home_bounded : home < 201
  home_bounded = omega (arith, home_within xs x)

  other_place : (w : ℕ) → (place_of w xs ≡ home → ⊥) → place_of w xs < length xs → get_or after (place_of w xs) 0 ≡ sum_of (Inside w) (take i xs)
  other_place w ne l = get_or-set_other inside home (place_of w xs) _ 0 ne ∙ s.rooms w l

  same_place : (w : ℕ) → place_of w xs ≡ home → place_of w xs < length xs → get_or after (place_of w xs) 0 ≡ sum_of (Inside w) (take i xs) + weight
  same_place w e l =
      ap (λ (p : ℕ). get_or after p 0) e
      ∙ get_or-set_same inside home _ 0 (omega (arith, home_bounded, s.size))
      ∙ ap (λ (n : ℕ). n + weight) (ap (λ (p : ℕ). get_or inside p 0) (sym e) ∙ s.rooms w l)

  rooms_after : (w : ℕ) → place_of w xs < length xs → get_or after (place_of w xs) 0 ≡ sum_of (Inside w) (take i xs) + amount_of (Inside w) x
  rooms_after w l =
      by_test (is_room x)
      (λ r.
      let there : home ≡ place_of x.within xs = rw r in
      by_test (eqb x.within w)
      (λ t.
      let named = eqb-true _ _ t in
      same_place w (ap (λ (v : ℕ). place_of v xs) (sym named) ∙ sym there) l ∙ ap (λ (v : ℕ). sum_of (Inside w) (take i xs) + amount_of (Inside v) x) named)
      (λ f. other_place w (λ q. eqb-false _ _ f (sym (one_id_at w x.within xs l (q ∙ there)))) l ∙ rw (r, f) (omega arith)))
      (λ r.
      let nowhere : home ≡ length xs = rw r in
      other_place w (λ q. omega arith) l ∙ rw r (omega arith))

  -- as the code has its place and what it adds
  pub one_summed : (p : ℕ) → p ≡ home → (tons : ℕ) → tons ≡ weight → (long : ℕ) → long ≡ amount_of Lengths x → tons < 2 ^ 32 → long < 2 ^ 32
      → Summed xs (i + 1) (set inside p (get_or inside p 0 + tons)) (lengths + long)
  one_summed p there tons weighs long is light short =
      let row : after ≡ set inside p (get_or inside p 0 + tons) = ap₂ (λ (q t : ℕ). set inside q (get_or inside q 0 + t)) (sym there) (sym weighs) in
      subst (λ (r : List ℕ). Summed xs (i + 1) r (lengths + long)) row
      record {
        size = length-set inside home _ ∙ s.size;
        rooms = λ w l. rooms_after w l ∙ sym (sum_more (Inside w) xs i h);
        decks = ap₂ (λ (m n : ℕ). m + n) s.decks is ∙ sym (sum_more Lengths xs i h);
        rooms_bounded = λ q l.
            by_test (eqb q home)
            (λ t.
            let same = ap (λ (r : ℕ). get_or after r 0) (eqb-true q home t) ∙ get_or-set_same inside home _ 0 (omega (arith, home_bounded, s.size)) in
            omega (arith, same, s.rooms_bounded home home_bounded))
            (λ f. omega (arith, get_or-set_other inside home q (get_or inside home 0 + weight) 0 (eqb-false q home f), s.rooms_bounded q l));
        decks_bounded = omega (arith, s.decks_bounded);
      }

-- ---- what is around the record at i, as the code has it: by its home, the place at which its id stands first, and what a climb met

module _ (xs : List Space) (i : ℕ) (h : i < length xs) where
  abbrev the_record : Space
  the_record = get_or xs i empty_space

  module _ (home own : ℕ) (up : Above) (home_of : home ≡ enclosing_place xs the_record) (own_of : own ≡ place_of the_record.id xs)
      (met : up ≡ walked (upward 8 (take i xs) the_record)) where
    home_is : min home i ≡ enclosing_place (take i xs) the_record
    home_is = ap (λ (p : ℕ). min p i) home_of ∙ sym (place_before the_record xs i (omega arith))

    taken_is : ltb own i ≡ stands the_record.id (take i xs)
    taken_is = ap (λ (p : ℕ). ltb p i) own_of ∙ sym (stands_before the_record.id xs i (omega arith))

    above_is : up ≡ walked (above (take i xs) the_record)
    unfolding above
    above_is = met

    -- a record is enclosed among those before it where its home is before it, and is a room then
    enclosed_by : ltb home i ≡ ltb (enclosing_place (take i xs) the_record) (length (take i xs))
    enclosed_by =
        let size = length-take-le i xs (omega arith) in
        let place = enclosing_place (take i xs) the_record in
        by_test (ltb home i)
        (λ t.
        let low = ltb-true home i t in
        let same : min home i ≡ home = min-eq_left (omega arith) in
        t ∙ sym (lt-ltb place (length (take i xs)) (omega (arith, size, home_is))))
        (λ f.
        let high = ltb-false home i f in
        let same : min home i ≡ i = min-eq_right (omega arith) in
        f ∙ sym (le-ltb place (length (take i xs)) (omega (arith, size, home_is))))

    home_of_room : home < i → home ≡ place_of the_record.within xs
    home_of_room low =
        by_test (is_room the_record)
        (λ r. home_of ∙ rw r)
        (λ r. let far : home ≡ length xs = home_of ∙ rw r in absurd (omega arith))

    module _ (inside : List ℕ) (lengths : ℕ) (s : Summed xs i inside lengths) where
      beside_is : cond (ltb home i) (get_or inside home 0) lengths ≡ beside_of (enclosing_place (take i xs) the_record) (take i xs) the_record
      beside_is =
          by_test (ltb home i)
          (λ t.
          let low = ltb-true home i t in
          let place = home_of_room low in
          rw (t, sym enclosed_by ∙ t) (ap (λ (p : ℕ). get_or inside p 0) place ∙ s.rooms the_record.within (omega arith)))
          (λ f. rw (f, sym enclosed_by ∙ f) s.decks)

      pub gathered : record {
        taken = ltb own i;
        home = min home i;
        levels = up.levels;
        plain = up.plain;
        beside = cond (ltb home i) (get_or inside home 0) lengths;
      } ≡ around_of (take i xs) the_record
      unfolding around_of
      gathered = rw (taken_is, home_is, above_is, beside_is)

-- ---- the row of it

around_snoc : (before xs : List Space) (x : Space) → around_from before (xs ++ (x ∷ [])) ≡ around_from before xs ++ (around_of (before ++ xs) x ∷ [])
around_snoc before [] x = ap (λ (l : List Space). around_of l x ∷ []) (sym (append-nil before))
around_snoc before (y ∷ xs) x =
    ap (λ (l : List Around). around_of before y ∷ l)
    (around_snoc (before ++ (y ∷ [])) xs x ∙ ap (λ (l : List Space). around_from (before ++ (y ∷ [])) xs ++ (around_of l x ∷ [])) (append_snoc before y xs))

around_length : (before xs : List Space) → length (around_from before xs) ≡ length xs
around_length before [] = refl
around_length before (x ∷ xs) = ap suc (around_length (before ++ (x ∷ [])) xs)

-- of the first i, and nothing around the other places
abbrev pub around_first : List Space → ℕ → List Around
around_first xs i = around_from [] (take i xs) ++ replicate (200 - i) blank_around

pub around_more : (xs : List Space) (i : ℕ) → i < length xs → length xs ≤ 200
    → set (around_first xs i) i (around_of (take i xs) (get_or xs i empty_space)) ≡ around_first xs (i + 1)
around_more xs i h most =
    let x = get_or xs i empty_space in
    let met : length (around_from [] (take i xs)) ≡ i = around_length [] (take i xs) ∙ length-take-le i xs (omega arith) in
    filled_more (around_from [] (take i xs)) blank_around (around_of (take i xs) x) 200 i met (omega arith)
    ∙ ap (λ (l : List Around). l ++ replicate (200 - (i + 1)) blank_around) (sym (around_snoc [] (take i xs) x) ∙ ap (around_from []) (one_passed xs i h))

-- and of all
pub around_all : (xs : List Space) (i : ℕ) → i ≡ length xs → around_first xs i ≡ each_around xs
unfolding each_around
around_all xs i e =
    ap (around_first xs) e ∙ ap (λ (l : List Space). around_from [] l ++ replicate (200 - length xs) blank_around) (take_all (length xs) xs (omega arith))

-- what is told of the record at a place
around_from_at : (before xs : List Space) (i : ℕ) → i < length xs → (none : Around) → get_or (around_from before xs) i none ≡ around_of (before ++ take i xs) (get_or xs i empty_space)
around_from_at before [] i h none = absurd (omega arith)
around_from_at before (x ∷ xs) zero h none = ap (λ (l : List Space). around_of l x) (sym (append-nil before))
around_from_at before (x ∷ xs) (suc i) h none =
    around_from_at (before ++ (x ∷ [])) xs i (omega arith) none
    ∙ ap (λ (l : List Space). around_of l (get_or xs i empty_space)) (append_snoc before x (take i xs))

pub around_at : (xs : List Space) (i : ℕ) → i < length xs → (none : Around) → get_or (each_around xs) i none ≡ around_of (take i xs) (get_or xs i empty_space)
unfolding each_around
around_at xs i h none =
    get_or-append (around_from [] xs) (replicate (200 - length xs) blank_around) none i (omega (arith, around_length [] xs)) ∙ around_from_at [] xs i h none
