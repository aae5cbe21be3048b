-- The stations of a space: which breadths are a station's, which station is the middle one, and what equal values weigh.
use Rattle.std.proofs.Common.{ℕ, zero, suc, ◌+◌, ◌*◌, ◌/◌, ◌<◌, ◌≡◌, sym, ap, ◌∙◌, List, [], ◌∷◌, ◌++◌, zero-add, add-zero, zero-mul, suc-mul, add-mul, add-one, arith, length, take, drop, get_or, replicate, length-append, length-drop, drop-drop, ext_get_or, length-take-le}
use lib.Seq.{split_at, get_or_at}
use Rattle.measure.specs.Parts.{EvenParts}
use Rattle.measure.specs.Multipliers.{multiplier, weighted_from, weighted}
use Rattle.measure.specs.Zones.{zone_end}
use Rattle.measure.specs.Volumes.{hundredths, station_area, areas, StationByStation}
use Rattle.measure.specs.Offsets.{middle_of, Middle}
use Rattle.measure.specs.declared.units.Hundredths.{Hundredths}
use Rattle.measure.proofs.Laws.Multipliers.{zones_fill}
use Rattle.measure.proofs.Laws.Volumes.{length_areas}

-- ---- which breadths are a station's

pub areas_are : (m : ℕ) (depths breadths : List ℕ) → StationByStation m depths breadths (areas m depths breadths)
areas_are m depths breadths = record { as_many = length_areas m depths breadths; each = each depths breadths }
  where
    each : (ds bs : List ℕ) (i : ℕ) → i < length ds
        → get_or (areas m ds bs) i 0 ≡ station_area m (hundredths (get_or ds i 0)) (take (m + 1) (drop (i * (m + 1)) bs))
    each [] bs i h = elim h [ ]
    each (d ∷ ds) bs zero h =
        ap (λ (at : ℕ). station_area m (hundredths d) (take (m + 1) (drop at bs))) (sym (zero-mul (m + 1)))
    each (d ∷ ds) bs (suc i) h =
        let on : m + 1 + i * (m + 1) ≡ suc i * (m + 1) = omega (arith, suc-mul i (m + 1)) in
        each ds (drop (m + 1) bs) i (omega arith)
        ∙ ap (λ (l : List ℕ). station_area m (hundredths (get_or ds i 0)) (take (m + 1) l))
        (drop-drop (i * (m + 1)) (m + 1) bs ∙ ap (λ (at : ℕ). drop at bs) on)

pub areas_only : (m : ℕ) (depths breadths found : List ℕ) → StationByStation m depths breadths found → found ≡ areas m depths breadths
areas_only m depths breadths found s =
    let a = areas_are m depths breadths in
    ext_get_or 0 found (areas m depths breadths) (s.as_many ∙ sym a.as_many) (λ i h.
    let h' : i < length depths = omega (arith, s.as_many) in
    s.each i h' ∙ sym (a.each i h'))

-- ---- the middle station

pub middle_is : (depths : List ℕ) (k : ℕ) → length depths ≡ 2 * k + 1 → Middle depths (middle_of depths)
unfolding middle_of
middle_is depths k e =
    let half : length depths / 2 ≡ k = omega arith in
    rw half
    (record {
      before = take k depths;
      after = drop (suc k) depths;
      in_order = split_at depths k 0 (omega arith);
      as_many = length-take-le k depths (omega arith) ∙ omega (arith, length-drop (suc k) depths);
    })

pub middle_only : (depths : List ℕ) (d : Hundredths) → Middle depths d → d ≡ middle_of depths
unfolding middle_of
middle_only depths d m =
    let whole = m.before ++ d.0 ∷ m.after in
    let half : length m.before ≡ length whole / 2 = omega (arith, m.as_many, length-append m.before (d.0 ∷ m.after)) in
    ap hundredths
    (sym (get_or_at m.before d.0 m.after 0 (length whole / 2) half)
    ∙ ap (λ (l : List ℕ). get_or l (length l / 2) 0) (sym m.in_order))

-- ---- equal values

each_equal : (n v k j : ℕ) → weighted_from n (k + 1) (replicate j v) + zone_end n k * v ≡ zone_end n (k + j) * v
each_equal n v k zero = rw (add-zero k) (omega arith)
each_equal n v k (suc j) =
    let on : k + suc j ≡ suc k + j = omega arith in
    rw (add-one k) (omega (arith, each_equal n v (suc k) j, ap (λ (i : ℕ). zone_end n i * v) on, add-mul (zone_end n k) (multiplier n (suc k)) v))

-- n + 1 equal values weigh 3 n times the value: a box's area and volume are its own
pub equal_values : {n : ℕ} → EvenParts n → (v : ℕ) → weighted n (replicate (n + 1) v) ≡ 3 * n * v
unfolding weighted
equal_values {n} p v =
    let whole : zone_end n (0 + (n + 1)) ≡ 3 * n = ap (zone_end n) (zero-add (n + 1)) ∙ zones_fill p in
    omega (arith, each_equal n v 0 (n + 1), ap (λ (k : ℕ). k * v) whole)
