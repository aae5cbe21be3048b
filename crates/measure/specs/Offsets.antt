-- One space measured from its offsets: the tonnage, or the refusal. Everywhere t is the tonnage length and l the space's length;
-- heights are the depths at a U's stations, the heights at a B's or S's, the one height of an H or R.
use Rattle.std.specs.Prelude.{ℕ, ◌+◌, ◌*◌, ◌/◌, ◌≡◌, List, [], ◌∷◌, ◌++◌, Bool, true, false, cond, not, ◌&&◌, eqb, length, get_or}
use Rattle.measure.specs.Kinds.{kind_of, is_kind}
use Rattle.measure.specs.Parts.{parts_of, under_deck_parts, table_parts, superstructure_parts, depth_parts}
use Rattle.measure.specs.Volumes.{CubicFeet, tons, hundredths, under_deck_volume, level_volume, box_volume, no_volume}
use Rattle.measure.specs.Ranges.{includes, includes_all, tonnage_lengths, lengths, heights, breadths}
use Rattle.measure.specs.Refusals.{first_of}
use Rattle.measure.specs.declared.units.Hundredths.{Hundredths}
use Rattle.measure.specs.declared.kinds.Kind.{Kind}
use Rattle.measure.specs.declared.kinds.Kind.TheVariants.{UnderDeck, BetweenDeck, Superstructure, Hatchway, Room, NoKind}
use Rattle.measure.specs.declared.offsets.Measured.{Measured}

-- 2: the kind, the tonnage length, the length and every measure handed in are in their ranges, or it applies
unfoldable pub in_range : Kind → Hundredths → Hundredths → List ℕ → List ℕ → Bool
in_range k t l hs bs =
    is_kind k && includes tonnage_lengths t.0 && includes (lengths k) l.0 && includes_all (heights k) hs && includes_all (breadths k) bs

-- "One station more than parts." The one length, breadth and height of an H or R count as one station.
unfoldable pub stations : Kind → Hundredths → Hundredths → ℕ
stations k t l = parts_of k t l + 1

-- "Each station has m+1 breadths" in a U, by the depth at the middle station; in any other space one
abbrev pub breadths_at_station : Kind → Hundredths → ℕ
breadths_at_station UnderDeck middle = depth_parts middle + 1
breadths_at_station BetweenDeck middle = 1
breadths_at_station Superstructure middle = 1
breadths_at_station Hatchway middle = 1
breadths_at_station Room middle = 1
breadths_at_station NoKind middle = 1

-- "The depth at the middle station": there is one station more than an even number of parts
unfoldable pub middle_of : List ℕ → Hundredths
middle_of hs = hundredths (get_or hs (length hs / 2) 0)

-- The same, where the number of stations is odd: as many stand before it as after it. `middle_of` is such a depth, and no other is
-- (measure_laws, Stations).
pub record Middle (depths : List ℕ) (d : Hundredths) : Type 0 where
  pub before : List ℕ
  pub after : List ℕ
  pub in_order : depths ≡ before ++ d.0 ∷ after
  pub as_many : length before ≡ length after

-- m of a space that is entered from its heights: a U's "4 or 6", by the depth at its middle station; no other space has one
abbrev pub m_of : Kind → List ℕ → ℕ
m_of UnderDeck hs = depth_parts (middle_of hs)
m_of BetweenDeck hs = 0
m_of Superstructure hs = 0
m_of Hatchway hs = 0
m_of Room hs = 0
m_of NoKind hs = 0

-- 3: heights and breadths are the number the rules ask, or it applies
unfoldable pub counted : Kind → Hundredths → Hundredths → List ℕ → List ℕ → Bool
counted k t l hs bs =
    eqb (length hs) (stations k t l) && eqb (length bs) (length hs * breadths_at_station k (middle_of hs))

-- the volume of a space of each kind
abbrev pub volume : Kind → Hundredths → Hundredths → List ℕ → List ℕ → CubicFeet
volume UnderDeck t l hs bs = under_deck_volume l (under_deck_parts t l) (depth_parts (middle_of hs)) hs bs
volume BetweenDeck t l hs bs = level_volume l (table_parts t) hs bs
volume Superstructure t l hs bs = level_volume l (superstructure_parts t l) hs bs
volume Hatchway t l hs bs = box_volume l (get_or hs 0 0) (get_or bs 0 0)
volume Room t l hs bs = box_volume l (get_or hs 0 0) (get_or bs 0 0)
volume NoKind t l hs bs = no_volume

unfoldable pub tonnage : Kind → Hundredths → Hundredths → List ℕ → List ℕ → ℕ
tonnage k t l hs bs = tons (volume k t l hs bs)

-- what is answered: the number and, where it is 0, accepted, the tonnage
abbrev pub answered : ℕ → ℕ → Measured
answered number tonnage = record { number = number; tonnage = cond (eqb number 0) tonnage 0 }

unfoldable pub measured : ℕ → Hundredths → Hundredths → List ℕ → List ℕ → Measured
measured code t l hs bs =
    let k = kind_of code in
    answered
    (first_of ((not (in_range k t l hs bs), 2) ∷ (not (counted k t l hs bs), 3) ∷ []))
    (tonnage k t l hs bs)

-- The same by the outcomes of the two tests, of an answer m: 2 exactly where the one fails, 3 exactly where the one holds and the other fails,
-- else accepted with the tonnage. `measured` is such an answer (measure_laws, Offsets).
pub record Exactly (ranged numbered : Bool) (tons : ℕ) (m : Measured) : Type 0 where
  pub with_2 : ranged ≡ false → m ≡ record { number = 2; tonnage = 0 }
  pub with_3 : ranged ≡ true → numbered ≡ false → m ≡ record { number = 3; tonnage = 0 }
  pub with_0 : ranged ≡ true → numbered ≡ true → m ≡ record { number = 0; tonnage = tons }
  pub only_2 : m.number ≡ 2 → ranged ≡ false
  pub only_3 : m.number ≡ 3 → (ranged ≡ true) × (numbered ≡ false)
  pub only_0 : m.number ≡ 0 → (ranged ≡ true) × (numbered ≡ true)
