-- Laws of the areas taken, what a tank of which no test applies is, and what its number says.
use Rattle.std.proofs.Common.{◌≡◌, refl, sym, ap, subst, ◌∙◌, Bool, true, false, cond, not, ◌&&◌, ◌||◌, List, [], ◌∷◌, ℕ, zero, suc, ◌+◌, ◌*◌, ◌≤◌, ◌<◌, max, add-zero, le_of_eq, arith, eqb-true, leb, eqb, length, take, drop, get_or, length-drop, get_or-drop, drop-drop, rules}
use Rattle.std.specs.Int.{from_bool}
use Rattle.std.proofs.lemmas.Bool.Decides.{nat_tests}
use Rattle.measure.specs.Parts.{EvenParts, p4, p6}
use Rattle.measure.specs.Sections.{layout_of, doubled, sections_over, sections}
use Rattle.measure.specs.Volumes.{areas}
use Rattle.measure.specs.Ranges.{includes, includes_all, lengths, fores, heights, breadths}
use Rattle.measure.specs.Refusals.{first_of}
use Rattle.measure.specs.Tanks.{larger, taken, tank_in_range, passes_end, has_m, measurable, all_sections, measured_tank}
use Rattle.measure.specs.Handed.{AllAtMost, none, more, AreasHanded, Laid, TankHanded}
use Rattle.measure.specs.declared.units.Hundredths.{Hundredths}
use Rattle.measure.specs.declared.kinds.Kind.TheVariants.{UnderDeck, Room}
use Rattle.measure.specs.declared.sections.Layout.{Layout}
use Rattle.measure.proofs.Laws.Tests.{and_left, and_right}
use Rattle.measure.proofs.Laws.Lists.{drop_step}
use Rattle.measure.proofs.Laws.Parts.{chosen, most}
use Rattle.measure.proofs.Laws.Ranges.{includes_most, all_at_most}
use Rattle.measure.proofs.Laws.Volumes.{length_areas, areas_le}
use Rattle.measure.proofs.Laws.Sections.{length_doubled, tank_sections_most}

larger_same : (a : ℕ) → larger a a ≡ a
larger_same a = same (leb a a)
  where
    same : (t : Bool) → cond t a a ≡ a
    same true = refl
    same false = refl

-- the area of the first station is the larger of its first and its last
front_taken : (two : Bool) (later : List Bool) (areas : List ℕ) → from_bool two < length areas
    → taken (two ∷ later) areas ≡ larger (get_or areas 0 0) (get_or areas (from_bool two) 0) ∷ taken later (drop (1 + from_bool two) areas)
front_taken false later [] h = absurd (omega arith)
front_taken true later [] h = absurd (omega arith)
front_taken false later (a ∷ areas) h = ap (λ (x : ℕ). x ∷ taken later areas) (sym (larger_same a))
front_taken true later (a ∷ []) h = absurd (omega arith)
front_taken true later (a ∷ b ∷ areas) h = refl

-- the areas of the stations from j on are the one of j and those from j + 1 on
pub taken_step : (two : List Bool) (j : ℕ) (areas : List ℕ) (first : ℕ) {more : ℕ} → j < length two
    → more ≡ from_bool (get_or two j false) → first + more < length areas
    → taken (drop j two) (drop first areas)
    ≡ larger (get_or areas first 0) (get_or areas (first + more) 0) ∷ taken (drop (j + 1) two) (drop (first + more + 1) areas)
taken_step two j areas first {more} h second there =
    let later = drop (j + 1) two in
    let room : from_bool (get_or two j false) < length (drop first areas) = rw (length-drop first areas) (omega arith) in
    let on : first + (1 + more) ≡ first + more + 1 = omega arith in
    ap (λ (l : List Bool). taken l (drop first areas)) (drop_step two j false h)
    ∙ front_taken (get_or two j false) later (drop first areas) room
    ∙ rw (← second, get_or-drop first areas 0 0, get_or-drop first areas more 0, drop-drop (1 + more) first areas, on, add-zero first)

-- the larger is the maximum
pub larger_max : (a b : ℕ) → larger a b ≡ max a b
larger_max a b = search (rules, nat_tests)

-- it looks only at as many areas as the stations ask
pub taken_looks : (two : List Bool) (n : ℕ) (areas : List ℕ) → sections_over two ≤ n → taken two (take n areas) ≡ taken two areas
taken_looks [] n areas h = refl
taken_looks (false ∷ later) zero areas h = absurd (omega arith)
taken_looks (false ∷ later) (suc n) [] h = refl
taken_looks (false ∷ later) (suc n) (a ∷ areas) h = ap (λ (l : List ℕ). a ∷ l) (taken_looks later n areas (omega arith))
taken_looks (true ∷ later) zero areas h = absurd (omega arith)
taken_looks (true ∷ later) (suc zero) areas h = absurd (omega arith)
taken_looks (true ∷ later) (suc (suc n)) [] h = refl
taken_looks (true ∷ later) (suc (suc n)) (a ∷ []) h = refl
taken_looks (true ∷ later) (suc (suc n)) (a ∷ b ∷ areas) h = ap (λ (l : List ℕ). larger a b ∷ l) (taken_looks later n areas (omega arith))

-- an area for each station
pub length_taken : (two : List Bool) (areas : List ℕ) → sections_over two ≤ length areas → length (taken two areas) ≡ length two
length_taken [] areas h = refl
length_taken (false ∷ later) [] h = absurd (omega arith)
length_taken (false ∷ later) (a ∷ areas) h = ap suc (length_taken later areas (omega arith))
length_taken (true ∷ later) [] h = absurd (omega arith)
length_taken (true ∷ later) (a ∷ []) h = absurd (omega arith)
length_taken (true ∷ later) (a ∷ b ∷ areas) h = ap suc (length_taken later areas (omega arith))

-- no greater than those it is taken from
pub taken_at_most : {b : ℕ} (two : List Bool) {areas : List ℕ} → AllAtMost b areas → AllAtMost b (taken two areas)
taken_at_most [] r = none
taken_at_most (false ∷ later) none = none
taken_at_most (true ∷ later) none = none
taken_at_most (false ∷ later) (more h r) = more h (taken_at_most later r)
taken_at_most (true ∷ later) (more h none) = none
taken_at_most {b} (true ∷ later) (more {x = x} h (more {x = y} g r)) =
    more (chosen (λ a. a ≤ b) (leb x y) g h) (taken_at_most later r)

-- ---- a tank of which no test applies

pub has_m_even : (m : ℕ) → has_m m ≡ true → EvenParts m
unfolding has_m
has_m_even m e = by (eqb m 4) refl (eqb m 6) refl e
  where
    by : (a : Bool) → eqb m 4 ≡ a → (b : Bool) → eqb m 6 ≡ b → (a || b) ≡ true → EvenParts m
    by true p b q e = subst EvenParts (sym (eqb-true m 4 p)) p4
    by false p true q e = subst EvenParts (sym (eqb-true m 6 q)) p6
    by false p false q e = let z : ◌≡◌ {A = ℕ} 0 1 = cc in absurd (omega arith)

pub has_m_most : (m : ℕ) → has_m m ≡ true → m ≤ 16
has_m_most m e = most (has_m_even m e)

-- is handed what it asks
pub tank_handed : (t u : Hundredths) (m : ℕ) (l f : Hundredths) (ds bs : List ℕ) {a : Layout} → a ≡ layout_of t u l f → Laid a
    → tank_in_range l f ds bs ≡ true → has_m m ≡ true → all_sections a m ds bs ≡ true → TankHanded a m ds bs
unfolding layout_of tank_in_range all_sections
tank_handed t u m l f ds bs {a} out laid ranged has all =
    let long = includes (lengths Room) l.0 in
    let fore = long && includes fores f.0 in
    let deep = includes_all (heights UnderDeck) ds in
    let broad = includes_all (breadths UnderDeck) bs in
    let front = and_left (fore && deep) broad ranged in
    let number = eqb (length ds) (sections a) in
    let breadth = eqb (length bs) (length ds * (m + 1)) in
    let asked = eqb-true _ _ (and_left number breadth all) in
    record {
      long = rw out (includes_most (lengths Room) l.0 (and_left long (includes fores f.0) (and_left fore deep front)));
      asked = asked;
      given = record {
        depth_parts = has_m_even m has;
        few = omega (arith, asked, tank_sections_most a, most laid.of_tank);
        count = eqb-true _ _ (and_right number breadth all);
        deep = all_at_most (heights UnderDeck) ds (and_right fore deep front);
        broad = all_at_most (breadths UnderDeck) bs (and_right (fore && deep) broad ranged);
      };
    }

module _ (a : Layout) (m : ℕ) (ds bs : List ℕ) (handed : TankHanded a m ds bs) where
  -- its areas are those of its stations
  pub tank_areas : Laid a → AreasHanded a.l a.p (taken (doubled a) (areas m ds bs))
  unfolding sections
  tank_areas laid =
      record {
        parts = laid.of_tank;
        long = handed.long;
        stations = length_taken (doubled a) (areas m ds bs) (omega (arith, handed.asked, length_areas m ds bs)) ∙ length_doubled a;
        broad = taken_at_most (doubled a) (areas_le handed.given);
      }

  -- and are taken from the first places
  pub areas_taken : (two : List Bool) (first found : List ℕ) → two ≡ doubled a → take (length ds) first ≡ areas m ds bs
      → take (length two) found ≡ taken two first → take (length two) found ≡ taken (doubled a) (areas m ds bs)
  unfolding sections
  areas_taken two first found told given took =
      took
      ∙ ap (λ (l : List Bool). taken l first) told
      ∙ sym (taken_looks (doubled a) (length ds) first (le_of_eq (sym handed.asked)))
      ∙ ap (taken (doubled a)) given

-- ---- what the number of a measured tank says of the tests of 2 and 3

first_two : (a b c d : Bool) (rest : List (Bool × ℕ))
    → (let n = first_of ((a, 2) ∷ (b, 3) ∷ (c, 9) ∷ (d, 29) ∷ []) in cond (eqb n 2 || eqb n 3) n (first_of rest)) ≡ first_of ((a, 2) ∷ (b, 3) ∷ rest)
first_two true b c d rest = refl
first_two false true c d rest = refl
first_two false false true d rest = refl
first_two false false false true rest = refl
first_two false false false false rest = refl

-- 2 and 3 are those of the tests, and any other number says that neither applies
pub judged_by_number : (t u : Hundredths) (m : ℕ) (l f : Hundredths) (ds bs : List ℕ) (rest : List (Bool × ℕ))
    → (let n = (measured_tank t u m l f ds bs).number in cond (eqb n 2 || eqb n 3) n (first_of rest))
    ≡ first_of ((not (tank_in_range l f ds bs), 2) ∷ (measurable u m l f && not (all_sections (layout_of t u l f) m ds bs), 3) ∷ rest)
unfolding measured_tank
judged_by_number t u m l f ds bs rest =
    first_two (not (tank_in_range l f ds bs)) (measurable u m l f && not (all_sections (layout_of t u l f) m ds bs)) (passes_end u l f) (not (has_m m)) rest
