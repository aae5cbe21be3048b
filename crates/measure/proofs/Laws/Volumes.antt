-- Laws of areas and volumes: one station taken off the front, and bounds.
use Rattle.std.proofs.Common.{◌≡◌, refl, sym, ap, ◌∙◌, List, [], ◌∷◌, ◌++◌, ℕ, zero, suc, ◌+◌, ◌*◌, ◌≤◌, zero-le, suc-mul, arith, length, take, drop, get_or, length-drop, length-take-le, length-append}
use Rattle.std.proofs.Math.Seq.{take-append_seam, drop-append_seam}
use Rattle.measure.specs.Thirds.{third_of_length, third_of_depth}
use Rattle.measure.specs.Multipliers.{weighted, total}
use Rattle.measure.specs.Volumes.{hundredths, station_area, areas, tons, volume_over, under_deck_volume, level_volume, box_volume}
use Rattle.measure.specs.Handed.{AllAtMost, none, more, StationHanded, SectionsHanded, AreasHanded, UnderDeckHanded, LevelHanded, BoxHanded, most_tons, most_area}
use Rattle.measure.specs.declared.units.Hundredths.{Hundredths}
use Rattle.measure.proofs.Laws.Products.{at_most}
use Rattle.measure.proofs.Laws.Rounding.{nearest_cap, scaled}
use Rattle.measure.proofs.Laws.Parts.{most}
use Rattle.measure.proofs.Laws.Multipliers.{weighted_le, total_le}

-- what is at most b at every place is so at one, from a place on and up to a place
pub at_most_get : {b : ℕ} {xs : List ℕ} (i : ℕ) → AllAtMost b xs → get_or xs i 0 ≤ b
at_most_get i none = zero-le
at_most_get zero (more h r) = h
at_most_get (suc i) (more h r) = at_most_get i r

pub at_most_drop : {b : ℕ} {xs : List ℕ} (i : ℕ) → AllAtMost b xs → AllAtMost b (drop i xs)
at_most_drop zero r = r
at_most_drop (suc i) none = none
at_most_drop (suc i) (more h r) = at_most_drop i r

pub at_most_take : {b : ℕ} {xs : List ℕ} (i : ℕ) → AllAtMost b xs → AllAtMost b (take i xs)
at_most_take zero r = none
at_most_take (suc i) none = none
at_most_take (suc i) (more h r) = more h (at_most_take i r)

pub length_areas : (m : ℕ) (ds bs : List ℕ) → length (areas m ds bs) ≡ length ds
length_areas m [] bs = refl
length_areas m (d ∷ ds) bs = ap suc (length_areas m ds (drop (m + 1) bs))

pub station_le : {m : ℕ} {d : Hundredths} {bs : List ℕ} → StationHanded m d bs → station_area m d bs ≤ most_area
unfolding station_area third_of_depth
station_le {m} {d} g =
    let q = scaled 30000 d.0 (3 * m) (weighted_le 30000 g.parts g.count g.broad) in
    let k = most g.parts in
    omega (arith, g.deep)

-- what is at most b at every place of two lists put together is so in each
at_most_front : {b : ℕ} (xs ys : List ℕ) → AllAtMost b (xs ++ ys) → AllAtMost b xs
at_most_front [] ys r = none
at_most_front (x ∷ xs) ys (more h r) = more h (at_most_front xs ys r)

at_most_behind : {b : ℕ} (xs ys : List ℕ) → AllAtMost b (xs ++ ys) → AllAtMost b ys
at_most_behind [] ys r = r
at_most_behind (x ∷ xs) ys (more h r) = at_most_behind xs ys r

-- the first section is handed what it asks, and so are those behind it
pub first_handed : {m d : ℕ} {ds bs : List ℕ} (b : List ℕ) → length b ≡ m + 1 → SectionsHanded m (d ∷ ds) (b ++ bs)
    → StationHanded m (hundredths d) b × SectionsHanded m ds bs
first_handed {m} {d} {ds} {bs} b size g = (
  record { parts = g.depth_parts; deep = at_most_get 0 g.deep; count = size; broad = at_most_front b bs g.broad },
  record {
    depth_parts = g.depth_parts;
    few = omega (arith, g.few);
    count = omega (arith, g.count, length-append b bs, size, suc-mul (length ds) (m + 1));
    deep = at_most_drop 1 g.deep;
    broad = at_most_behind b bs g.broad;
  },
)

-- the area of the first section found, and those of the ones behind it
pub area_first : (m d : ℕ) (ds b bs : List ℕ) → length b ≡ m + 1
    → areas m (d ∷ ds) (b ++ bs) ≡ station_area m (hundredths d) b ∷ areas m ds bs
area_first m d ds b bs size =
    rw (sym size, take-append_seam b bs, drop-append_seam b bs) refl

pub areas_le : {m : ℕ} {ds bs : List ℕ} → SectionsHanded m ds bs → AllAtMost most_area (areas m ds bs)
areas_le {m} {ds} {bs} g = each ds bs g.count g.deep g.broad
  where
    each : (ds bs : List ℕ) → length bs ≡ length ds * (m + 1) → AllAtMost 20000 ds → AllAtMost 30000 bs → AllAtMost most_area (areas m ds bs)
    each [] bs e hd hb = none
    each (d ∷ ds) bs e (more h r) hb =
        let e' = e ∙ suc-mul (length ds) (m + 1) in
        let t : length (take (m + 1) bs) ≡ m + 1 = length-take-le (m + 1) bs (omega arith) in
        let l : length (drop (m + 1) bs) ≡ length ds * (m + 1) = omega (arith, length-drop (m + 1) bs) in
        more
        (station_le (record { parts = g.depth_parts; deep = h; count = t; broad = at_most_take (m + 1) hb }))
        (each ds (drop (m + 1) bs) l r (at_most_drop (m + 1) hb))

-- a U's areas are those of its stations
pub under_deck_areas : {l : Hundredths} {n m : ℕ} {ds bs : List ℕ} → UnderDeckHanded l n m ds bs → AreasHanded l n (areas m ds bs)
under_deck_areas {m = m} {ds} {bs} g =
    record {
      parts = g.parts;
      long = g.long;
      stations = length_areas m ds bs ∙ g.stations;
      broad = areas_le g.sections;
    }

-- the volumes, each over its divisor at most 100,000,000
pub volume_over_le : {l : Hundredths} {n : ℕ} {areas' : List ℕ} → AreasHanded l n areas' → weighted n areas' * (third_of_length l n).0 ≤ most_tons * 10000000
unfolding third_of_length
volume_over_le {l} {n} g =
    let q = scaled most_area (10 * l.0) (3 * n) (weighted_le most_area g.parts g.stations g.broad) in
    omega (arith, most g.parts, g.long)

pub level_area_le : {l : Hundredths} {n : ℕ} {hs bs : List ℕ} → LevelHanded l n hs bs → weighted n bs * (third_of_length l n).0 ≤ 45000720000
unfolding third_of_length
level_area_le {l} {n} g =
    let q = scaled 30000 (10 * l.0) (3 * n) (weighted_le 30000 g.parts g.count g.broad) in
    omega (arith, most g.parts, g.long)

pub level_le : {l : Hundredths} {n : ℕ} {hs bs : List ℕ} → LevelHanded l n hs bs
    → weighted n bs * (third_of_length l n).0 * total hs ≤ most_tons * (10000000 * (n + 1))
level_le {n = n} g =
    let h = rw g.stations at (total_le 20000 g.high) in
    let p = at_most 45000720000 ((n + 1) * 20000) (level_area_le g) h in
    omega arith

pub box_le : {l : Hundredths} {hs bs : List ℕ} → BoxHanded l hs bs → l.0 * get_or bs 0 0 * get_or hs 0 0 ≤ most_tons * 1000000
box_le g =
    let p = at_most (150000 * 30000) 20000 (at_most 150000 30000 g.long (at_most_get 0 g.broad)) (at_most_get 0 g.high) in
    omega arith

-- "at most 100,000,000, which no entry from offsets in range can pass"
pub tons_over_le : {l : Hundredths} {n : ℕ} {areas' : List ℕ} → AreasHanded l n areas' → tons (volume_over l n areas') ≤ most_tons
unfolding tons
tons_over_le g = nearest_cap most_tons _ 10000000 (omega arith) (volume_over_le g)

pub under_deck_tons_le : {l : Hundredths} {n m : ℕ} {ds bs : List ℕ} → UnderDeckHanded l n m ds bs → tons (under_deck_volume l n m ds bs) ≤ most_tons
unfolding under_deck_volume
under_deck_tons_le g = tons_over_le (under_deck_areas g)

pub level_tons_le : {l : Hundredths} {n : ℕ} {hs bs : List ℕ} → LevelHanded l n hs bs → tons (level_volume l n hs bs) ≤ most_tons
unfolding tons level_volume
level_tons_le {n = n} g = nearest_cap most_tons _ (10000000 * (n + 1)) (omega arith) (level_le g)

pub box_tons_le : {l : Hundredths} {hs bs : List ℕ} → BoxHanded l hs bs → tons (box_volume l (get_or hs 0 0) (get_or bs 0 0)) ≤ most_tons
unfolding tons box_volume
box_tons_le g = nearest_cap most_tons _ 1000000 (omega arith) (box_le g)
