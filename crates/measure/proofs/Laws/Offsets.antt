-- What offsets of which neither 2 nor 3 applies are: in range and of the right number, as the functions inside the crate ask it.
use Rattle.std.proofs.Common.{◌≡◌, refl, ◌∙◌, Bool, true, false, not, ◌&&◌, List, [], ◌∷◌, ℕ, ◌+◌, ◌*◌, ◌≤◌, arith, eqb-true, eqb, lit≤, length}
use Rattle.measure.specs.Kinds.{kind_of, is_kind}
use Rattle.measure.specs.Rounding.{nearest}
use Rattle.measure.specs.Parts.{EvenParts, parts_of, under_deck_parts, depth_parts}
use Rattle.measure.specs.Volumes.{tons}
use Rattle.measure.specs.Ranges.{includes, includes_all, tonnage_lengths, lengths, heights, breadths}
use Rattle.measure.specs.Refusals.{first_of}
use Rattle.measure.specs.Offsets.{in_range, stations, breadths_at_station, middle_of, counted, tonnage, measured}
use Rattle.measure.specs.Handed.{AllAtMost, UnderDeckHanded, LevelHanded, BoxHanded, Taken, most_tons}
use Rattle.measure.specs.declared.units.Hundredths.{Hundredths}
use Rattle.measure.specs.declared.kinds.Kind.{Kind}
use Rattle.measure.specs.declared.kinds.Kind.TheVariants.{UnderDeck, BetweenDeck, Superstructure, Hatchway, Room, NoKind}
use Rattle.measure.proofs.Laws.Tests.{and_left, and_right}
use Rattle.measure.proofs.Laws.Parts.{most, table_even, under_deck_even, superstructure_even, depth_even, parts_most}
use Rattle.measure.proofs.Laws.Ranges.{includes_most, all_at_most}
use Rattle.measure.proofs.Laws.Volumes.{under_deck_tons_le, level_tons_le, box_tons_le}

-- accepted offsets are such
pub accepted_taken : (code : ℕ) (t l : Hundredths) (hs bs : List ℕ) → (measured code t l hs bs).number ≡ 0 → Taken (kind_of code) t l hs bs
unfolding measured
accepted_taken code t l hs bs = by (in_range (kind_of code) t l hs bs) refl (counted (kind_of code) t l hs bs) refl
  where
    by : (ranged : Bool) → in_range (kind_of code) t l hs bs ≡ ranged → (numbered : Bool) → counted (kind_of code) t l hs bs ≡ numbered
        → first_of ((not ranged, 2) ∷ (not numbered, 3) ∷ []) ≡ 0 → Taken (kind_of code) t l hs bs
    by true r true n z = record { ranged = r; numbered = n }
    by true r false n z = absurd (omega arith)
    by false r numbered n z = absurd (omega arith)

pub breadths_at_station_le : (k : Kind) (middle : Hundredths) → breadths_at_station k middle ≤ 17
breadths_at_station_le UnderDeck middle = omega (arith, most (depth_even middle))
breadths_at_station_le BetweenDeck middle = lit≤ tt
breadths_at_station_le Superstructure middle = lit≤ tt
breadths_at_station_le Hatchway middle = lit≤ tt
breadths_at_station_le Room middle = lit≤ tt
breadths_at_station_le NoKind middle = lit≤ tt

lengths_most : (k : Kind) → (lengths k).most ≡ 150000
lengths_most UnderDeck = refl
lengths_most BetweenDeck = refl
lengths_most Superstructure = refl
lengths_most Hatchway = refl
lengths_most Room = refl
lengths_most NoKind = refl

module _ (k : Kind) (t l : Hundredths) (hs bs : List ℕ) (taken : Taken k t l hs bs) where
  pub taken_broad : AllAtMost 30000 bs
  unfolding in_range
  taken_broad =
      let a = is_kind k && includes tonnage_lengths t.0 && includes (lengths k) l.0 && includes_all (heights k) hs in
      all_at_most (breadths k) bs (and_right a (includes_all (breadths k) bs) taken.ranged)

  pub taken_high : AllAtMost 20000 hs
  unfolding in_range
  taken_high =
      let a = is_kind k && includes tonnage_lengths t.0 && includes (lengths k) l.0 in
      let h = and_left (a && includes_all (heights k) hs) (includes_all (breadths k) bs) taken.ranged in
      all_at_most (heights k) hs (and_right a (includes_all (heights k) hs) h)

  pub taken_long : l.0 ≤ 150000
  unfolding in_range
  taken_long =
      let a = is_kind k && includes tonnage_lengths t.0 in
      let b = a && includes (lengths k) l.0 in
      let h = and_left (b && includes_all (heights k) hs) (includes_all (breadths k) bs) taken.ranged in
      let g = and_left b (includes_all (heights k) hs) h in
      rw (lengths_most k) at (includes_most (lengths k) l.0 (and_right a (includes (lengths k) l.0) g))

  pub taken_stations : length hs ≡ parts_of k t l + 1
  unfolding counted stations
  taken_stations = eqb-true _ _ (and_left (eqb (length hs) (parts_of k t l + 1)) _ taken.numbered)

  pub taken_breadths : length bs ≡ length hs * breadths_at_station k (middle_of hs)
  unfolding counted
  taken_breadths = eqb-true _ _ (and_right (eqb (length hs) (stations k t l)) _ taken.numbered)

-- a U is handed what it asks
pub under_deck_taken : (t l : Hundredths) (hs bs : List ℕ) → Taken UnderDeck t l hs bs
    → UnderDeckHanded l (under_deck_parts t l) (depth_parts (middle_of hs)) hs bs
under_deck_taken t l hs bs taken =
    let stations = taken_stations UnderDeck t l hs bs taken in
    record {
      parts = under_deck_even t l;
      long = taken_long UnderDeck t l hs bs taken;
      stations = stations;
      sections = record {
        depth_parts = depth_even (middle_of hs);
        few = omega (arith, stations, most (under_deck_even t l));
        count = taken_breadths UnderDeck t l hs bs taken;
        deep = taken_high UnderDeck t l hs bs taken;
        broad = taken_broad UnderDeck t l hs bs taken;
      };
    }

-- and has no more than 17 stations
pub taken_few : (k : Kind) (t l : Hundredths) (hs bs : List ℕ) → in_range k t l hs bs ≡ true → counted k t l hs bs ≡ true → length hs ≤ 17
taken_few k t l hs bs r n =
    omega (arith, taken_stations k t l hs bs (record { ranged = r; numbered = n }), parts_most k t l)

-- and so is a space with one breadth a station: a B or an S, and an H or an R
module _ (k : Kind) (t l : Hundredths) (hs bs : List ℕ) (one : breadths_at_station k (middle_of hs) ≡ 1) (taken : Taken k t l hs bs) where
  pub one_a_station : length bs ≡ length hs
  one_a_station =
      let e = rw one at (taken_breadths k t l hs bs taken) in
      omega arith

  pub level_taken : EvenParts (parts_of k t l) → LevelHanded l (parts_of k t l) hs bs
  level_taken even =
      record {
        parts = even;
        long = taken_long k t l hs bs taken;
        stations = taken_stations k t l hs bs taken;
        count = one_a_station ∙ taken_stations k t l hs bs taken;
        high = taken_high k t l hs bs taken;
        broad = taken_broad k t l hs bs taken;
      }

  pub box_taken : BoxHanded l hs bs
  box_taken =
      let e = one_a_station in
      let h = taken_stations k t l hs bs taken in
      record {
        long = taken_long k t l hs bs taken;
        stations = omega arith;
        count = omega arith;
        high = taken_high k t l hs bs taken;
        broad = taken_broad k t l hs bs taken;
      }

-- by which a space of each kind is handed what it asks
pub ruleset each_taken = (under_deck_taken, level_taken, box_taken, table_even, superstructure_even)

-- "tonnage 4 (at most 100,000,000, which no entry from offsets in range can pass)"
pub tonnage_at_most : (k : Kind) (t l : Hundredths) (hs bs : List ℕ) → Taken k t l hs bs → tonnage k t l hs bs ≤ most_tons
unfolding tonnage tons nearest
tonnage_at_most UnderDeck t l hs bs taken = under_deck_tons_le (under_deck_taken t l hs bs taken)
tonnage_at_most BetweenDeck t l hs bs taken = level_tons_le (level_taken BetweenDeck t l hs bs refl taken (table_even t))
tonnage_at_most Superstructure t l hs bs taken = level_tons_le (level_taken Superstructure t l hs bs refl taken (superstructure_even t l))
tonnage_at_most Hatchway t l hs bs taken = box_tons_le (box_taken Hatchway t l hs bs refl taken)
tonnage_at_most Room t l hs bs taken = box_tons_le (box_taken Room t l hs bs refl taken)
tonnage_at_most NoKind t l hs bs taken = lit≤ tt
