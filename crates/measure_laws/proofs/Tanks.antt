-- Tanks: the areas that stations take, how many sections are asked, the tank that is the whole U, and what is answered.
use Rattle.std.proofs.Common.{◌≡◌, refl, sym, ap, ap₂, ◌∙◌, Bool, true, false, cond, not, ◌&&◌, ◌||◌, List, [], ◌∷◌, ℕ, zero, suc, ◌+◌, ◌*◌, ◌≤◌, ◌<◌, zero-le, le_of_lt, le_antisymm, mul-le-mul_right, mul_comm, add-mul, zero-add, zero-mul, mul-pos, arith, leb-true, leb-false, le-leb, ltb-false, leb, eqb, length, replicate, length-append}
use native.Mathlib.Nat.{mul-mul-mul_comm, eq_of_mul-eq-mul_right}
use Rattle.measure.specs.Parts.{under_deck_parts, depth_parts, nearest_parts}
use Rattle.measure.specs.Zones.{zone_end, Point}
use Rattle.measure.specs.Sections.{layout_of, station_at, between_zones, between_from, doubled, sections_over, sections, zone_of_station, zones_at, zones_from, section_zones}
use Rattle.measure.specs.Volumes.{tons, hundredths, areas, volume_over, under_deck_volume}
use Rattle.measure.specs.Refusals.{first_of}
use Rattle.measure.specs.Offsets.{middle_of, m_of, answered}
use Rattle.measure.specs.Tanks.{taken, Takes, none, the_one, the_fore_one, the_aft_one, tank_volume, tank_in_range, passes_end, has_m, all_sections, measured_tank}
use Rattle.measure.specs.Handed.{Laid, most_tons}
use Rattle.measure.specs.declared.sections.Layout.{Layout}
use Rattle.measure.specs.declared.units.Hundredths.{Hundredths}
use Rattle.measure.specs.declared.kinds.Kind.TheVariants.{UnderDeck}
use Rattle.measure.specs.declared.offsets.Measured.{Measured}
use Rattle.measure.proofs.Laws.Parts.{most, least, under_deck_even, nearest_even}
use Rattle.measure.proofs.Laws.Volumes.{length_areas, tons_over_le}
use Rattle.measure.proofs.Laws.Sections.{length_doubled}
use Rattle.measure.proofs.Laws.Tanks.{tank_handed, tank_areas}
use Rattle.measure_laws.specs.Zones.{Zoned}
use Rattle.measure_laws.specs.Tanks.{how_many, TankAnswer, AnsweredTank, with_2, with_9, with_29, with_3, with_0}
use Rattle.measure_laws.proofs.Parts.{nearest_to_itself}
use Rattle.measure_laws.proofs.Zones.{inner_end, not_between, zoned}

-- ---- "the larger area is taken"

pub takes_is : (two : List Bool) (areas : List ℕ) → length areas ≡ sections_over two → Takes two areas (taken two areas)
takes_is [] [] e = none
takes_is [] (a ∷ areas) e = absurd (omega arith)
takes_is (false ∷ two) [] e = absurd (omega arith)
takes_is (false ∷ two) (a ∷ areas) e = the_one (takes_is two areas (omega arith))
takes_is (true ∷ two) [] e = absurd (omega arith)
takes_is (true ∷ two) (a ∷ []) e = absurd (omega arith)
takes_is (true ∷ two) (a ∷ b ∷ areas) e = by (leb a b) refl (takes_is two areas (omega arith))
  where
    by : (t : Bool) → leb a b ≡ t → Takes two areas (taken two areas) → Takes (true ∷ two) (a ∷ b ∷ areas) (cond t b a ∷ taken two areas)
    by true e r = the_aft_one (leb-true a b e) r
    by false e r = the_fore_one (le_of_lt (leb-false a b e)) r

pub takes_only : {two : List Bool} {areas found : List ℕ} → Takes two areas found → found ≡ taken two areas
takes_only none = refl
takes_only (the_one {a} r) = ap (λ (l : List ℕ). a ∷ l) (takes_only r)
takes_only (the_fore_one {a} {b} h r) = ap₂ (λ (x : ℕ) (l : List ℕ). x ∷ l) (by (leb a b) refl) (takes_only r)
  where
    by : (t : Bool) → leb a b ≡ t → a ≡ cond t b a
    by true e = le_antisymm (leb-true a b e) h
    by false e = refl
takes_only (the_aft_one {a} {b} h r) = ap₂ (λ (x : ℕ) (l : List ℕ). x ∷ l) (sym (rw (le-leb a b h))) (takes_only r)

-- ---- how many sections

zones_counted : (a : Layout) (j left : ℕ) → length (zones_from a j left) ≡ sections_over (between_from a j left)
zones_counted a j zero = refl
zones_counted a j (suc left) =
    length-append (zones_at a j) (zones_from a (j + 1) left)
    ∙ ap₂ ◌+◌ (one_or_two (zone_of_station a j) (between_zones a j)) (zones_counted a (j + 1) left)
  where
    one_or_two : (k : ℕ) (two : Bool) → length (k ∷ cond two ((k + 1) ∷ []) []) ≡ cond two 2 1
    one_or_two k true = refl
    one_or_two k false = refl

-- one for each zone that a station lies in
pub sections_are_zones : (a : Layout) → sections a ≡ length (section_zones a)
unfolding sections section_zones
sections_are_zones a = sym (zones_counted a 0 (a.p + 1))

-- one a station, and one more where it is doubled
pub sections_counted : (a : Layout) → sections a ≡ a.p + 1 + how_many (doubled a)
unfolding sections
sections_counted a = each (doubled a) ∙ ap (λ (k : ℕ). k + how_many (doubled a)) (length_doubled a)
  where
    each : (two : List Bool) → sections_over two ≡ length two + how_many two
    each [] = refl
    each (true ∷ two) = omega (arith, each two)
    each (false ∷ two) = omega (arith, each two)

-- ---- the tank that is the whole U

none_true : (k : ℕ) → how_many (replicate k false) ≡ 0
none_true zero = refl
none_true (suc k) = omega (arith, none_true k)

taken_alone : (k : ℕ) (areas : List ℕ) → length areas ≡ k → taken (replicate k false) areas ≡ areas
taken_alone zero [] e = refl
taken_alone zero (a ∷ areas) e = absurd (omega arith)
taken_alone (suc k) [] e = absurd (omega arith)
taken_alone (suc k) (a ∷ areas) e = ap (λ (l : List ℕ). a ∷ l) (taken_alone k areas (omega arith))

module _ (t u : Hundredths) (some : 0 < u.0) where
  abbrev parts : ℕ
  parts = under_deck_parts t u

  -- it has the U's parts
  pub whole_parts : (layout_of t u u (hundredths 0)).p ≡ parts
  unfolding layout_of
  whole_parts = nearest_to_itself u (under_deck_even t u) some

  abbrev station_of_u : ℕ → Point
  station_of_u j = record { over = 0 * parts + j * u.0; under = parts }

  -- a station of the U is a whole number of intervals along, and no inner end of a zone is
  never_between : (j : ℕ) → between_zones (layout_of t u u (hundredths 0)) j ≡ false
  unfolding layout_of between_zones
  never_between j =
      rw (nearest_to_itself u (under_deck_even t u) some)
      (not_between parts u (station_of_u j) (λ k lo hi at-end.
      let thirds : j * 3 ≡ zone_end parts k =
      eq_of_mul-eq-mul_right (u.0 * parts) (mul-pos some (omega (arith, least (under_deck_even t u)))) (j * 3) (zone_end parts k) (sym along ∙ at-end) in
      omega (arith, inner_end parts k lo hi)))
    where
      along : (0 * parts + j * u.0) * (3 * parts) ≡ j * 3 * (u.0 * parts)
      along =
          ap (λ (y : ℕ). (y + j * u.0) * (3 * parts)) (zero-mul parts)
          ∙ ap (λ (y : ℕ). y * (3 * parts)) (zero-add (j * u.0))
          ∙ mul-mul-mul_comm j u.0 3 parts

  none_between : (j left : ℕ) → between_from (layout_of t u u (hundredths 0)) j left ≡ replicate left false
  none_between j zero = refl
  none_between j (suc left) = ap₂ (λ (b : Bool) (l : List Bool). b ∷ l) (never_between j) (none_between (j + 1) left)

  -- no doubled station, so a section for each of the U's stations
  whole_doubled : doubled (layout_of t u u (hundredths 0)) ≡ replicate (parts + 1) false
  whole_doubled = none_between 0 ((layout_of t u u (hundredths 0)).p + 1) ∙ ap (λ (k : ℕ). replicate (k + 1) false) whole_parts

  pub whole_none_doubled : how_many (doubled (layout_of t u u (hundredths 0))) ≡ 0
  whole_none_doubled = ap how_many whole_doubled ∙ none_true (parts + 1)

  pub whole_sections : sections (layout_of t u u (hundredths 0)) ≡ parts + 1
  whole_sections = omega (arith, sections_counted (layout_of t u u (hundredths 0)), whole_parts, whole_none_doubled)

  -- and the U's volume
  pub whole_volume : (m : ℕ) (ds bs : List ℕ) → length ds ≡ parts + 1 → tank_volume (layout_of t u u (hundredths 0)) m ds bs ≡ under_deck_volume u parts m ds bs
  unfolding layout_of tank_volume under_deck_volume
  whole_volume m ds bs e =
      ap₂ (volume_over u) whole_parts
      (ap (λ (two : List Bool). taken two (areas m ds bs)) whole_doubled ∙ taken_alone (parts + 1) (areas m ds bs) (length_areas m ds bs ∙ e))

-- ---- a tank in its U

module _ (t u l f : Hundredths) where
  laid : Laid (layout_of t u l f)
  unfolding layout_of
  laid = record { of_u = most (under_deck_even t u); of_tank = nearest_even u (under_deck_parts t u) l }

  -- its stations are points of the U, so that they lie in the zones of their sections and in no others
  pub station_zoned : 0 < u.0 → passes_end u l f ≡ false → (j : ℕ) → j ≤ (layout_of t u l f).p
      → (let a = layout_of t u l f in Zoned a.n a.u (station_at a j) (zone_of_station a j) (between_zones a j))
  unfolding layout_of zone_of_station between_zones passes_end
  station_zoned some inside j h =
      let p = nearest_parts u (under_deck_parts t u) l in
      let within = mul-le-mul_right p (ltb-false u.0 (f.0 + l.0) inside) in
      let along : f.0 * p + j * l.0 ≤ u.0 * p = omega (arith, mul-le-mul_right l.0 h, mul_comm p l.0, add-mul f.0 l.0 p) in
      zoned (under_deck_parts t u) u (record { over = f.0 * p + j * l.0; under = p }) (under_deck_even t u)
      (record { has_length = some; a_fraction = omega (arith, least (nearest_even u (under_deck_parts t u) l)); not_past = along })

-- ---- what is answered

-- the answer of four tests
abbrev answer : Bool → Bool → Bool → Bool → ℕ → Measured
answer ranged passing known complete tons =
    answered (first_of ((not ranged, 2) ∷ (known && not passing && not complete, 3) ∷ (passing, 9) ∷ (not known, 29) ∷ [])) tons

answer_is : (ranged passing known complete : Bool) (tons : ℕ) → TankAnswer ranged passing known complete tons (answer ranged passing known complete tons)
answer_is false passing known complete tons = with_2 refl
answer_is true true true complete tons = with_9 refl refl
answer_is true true false complete tons = with_9 refl refl
answer_is true false false complete tons = with_29 refl refl refl
answer_is true false true false tons = with_3 refl refl refl refl
answer_is true false true true tons = with_0 refl refl refl refl

answer_only : (ranged passing known complete : Bool) (tons : ℕ) {r : Measured} → TankAnswer ranged passing known complete tons r → r ≡ answer ranged passing known complete tons
answer_only ranged passing known complete tons (with_2 a) = rw a
answer_only ranged passing known complete tons (with_9 a b) = rw (a, b) (either known)
  where
    either : (k : Bool) → record { number = 9; tonnage = 0 } ≡ answer true true k complete tons
    either true = refl
    either false = refl
answer_only ranged passing known complete tons (with_29 a b c) = rw (a, b, c)
answer_only ranged passing known complete tons (with_3 a b c d) = rw (a, b, c, d)
answer_only ranged passing known complete tons (with_0 a b c d) = rw (a, b, c, d)

module _ (t u : Hundredths) (m : ℕ) (l f : Hundredths) (ds bs : List ℕ) where
  pub measured_tank_is : AnsweredTank t u m l f ds bs (measured_tank t u m l f ds bs)
  unfolding measured_tank
  measured_tank_is = answer_is (tank_in_range l f ds bs) (passes_end u l f) (has_m m) (all_sections (layout_of t u l f) m ds bs) (tons (tank_volume (layout_of t u l f) m ds bs))

  pub measured_tank_only : (r : Measured) → AnsweredTank t u m l f ds bs r → r ≡ measured_tank t u m l f ds bs
  unfolding measured_tank
  measured_tank_only r h = answer_only (tank_in_range l f ds bs) (passes_end u l f) (has_m m) (all_sections (layout_of t u l f) m ds bs) (tons (tank_volume (layout_of t u l f) m ds bs)) h

  -- no tank passes what a record holds
  pub measured_tank_at_most : (measured_tank t u m l f ds bs).tonnage ≤ most_tons
  unfolding tank_volume
  measured_tank_at_most = by measured_tank_is
    where
      by : {r : Measured} → AnsweredTank t u m l f ds bs r → r.tonnage ≤ most_tons
      by (with_2 _) = zero-le
      by (with_9 _ _) = zero-le
      by (with_29 _ _ _) = zero-le
      by (with_3 _ _ _ _) = zero-le
      by (with_0 ranged _ known complete) =
          let handed = tank_handed t u m l f ds bs refl (laid t u l f) ranged known complete in
          tons_over_le (tank_areas (layout_of t u l f) m ds bs handed (laid t u l f))

-- ---- m

-- "m, 4 or 6 for a U entered from offsets, 0 for every other space": a U that is entered has one
pub entered_has_m : (heights : List ℕ) → has_m (m_of UnderDeck heights) ≡ true
unfolding has_m depth_parts
entered_has_m heights = either (leb (middle_of heights).0 1600)
  where
    either : (t : Bool) → (eqb (cond t 4 6) 4 || eqb (cond t 4 6) 6) ≡ true
    either true = refl
    either false = refl
