-- The ends of a U: which areas are its ends', that its volume sums the same list, and what its ends weigh in it. Stands on Classes.
use Rattle.std.proofs.Common.{ℕ, suc, ◌+◌, ◌*◌, ◌-◌, ◌<◌, ◌≡◌, refl, sym, ap, ap₂, ◌∙◌, List, [], ◌∷◌, ◌++◌, arith, length, take, drop, get_or, length-append, drop_of_length-le}
use lib.Seq.{split_at, get_or_at}
use Rattle.measure.specs.Kinds.{kind_of}
use Rattle.measure.specs.Parts.{under_deck_parts, depth_parts}
use Rattle.measure.specs.Multipliers.{multiplier, weighted_from, weighted, first_once, last_once}
use Rattle.measure.specs.Volumes.{volume_over, under_deck_volume}
use Rattle.measure.specs.Offsets.{middle_of, volume, measured}
use Rattle.measure.specs.Ends.{section_areas, ends_of, FirstAndLast}
use Rattle.measure.specs.declared.units.Hundredths.{Hundredths}
use Rattle.measure.specs.declared.kinds.Kind.TheVariants.{UnderDeck}
use Rattle.measure.specs.declared.ends.EndAreas.{EndAreas}
use Rattle.measure.proofs.Laws.Parts.{least, under_deck_even}
use Rattle.measure.proofs.Laws.Volumes.{length_areas}
use Rattle.measure.proofs.Laws.Offsets.{accepted_taken, under_deck_taken}
use Rattle.measure_laws.proofs.Classes.{multiplier_only}

-- "the same list of areas that the volume sums"
pub volume_sums : (t l : Hundredths) (ds bs : List ℕ) → volume UnderDeck t l ds bs ≡ volume_over l (under_deck_parts t l) (section_areas ds bs)
unfolding under_deck_volume
volume_sums t l ds bs = refl

-- ---- which they are

-- a list of two or more begins and ends with two of its values
both_ends : (xs : List ℕ) → 1 < length xs → FirstAndLast xs (record { fore = get_or xs 0 0; aft = get_or xs (length xs - 1) 0 })
both_ends [] h = absurd (omega arith)
both_ends (x ∷ xs) h =
    let k = length xs - 1 in
    let last : suc (length xs) - 1 ≡ suc k = omega arith in
    let none_left : drop (suc k) xs ≡ [] = drop_of_length-le xs {i = suc k} (omega arith) in
    rw last
    (record {
      between = take k xs;
      in_order = ap (λ (l : List ℕ). x ∷ l) (split_at xs k 0 (omega arith) ∙ ap (λ (l : List ℕ). take k xs ++ (get_or xs k 0 ∷ l)) none_left);
    })

pub ends_are : (ds bs : List ℕ) → 1 < length ds → FirstAndLast (section_areas ds bs) (ends_of ds bs)
unfolding ends_of
ends_are ds bs h =
    let as_many = length_areas (depth_parts (middle_of ds)) ds bs in
    rw (← as_many) (both_ends (section_areas ds bs) (omega arith))

pub ends_only : (ds bs : List ℕ) (e : EndAreas) → FirstAndLast (section_areas ds bs) e → e ≡ ends_of ds bs
unfolding ends_of
ends_only ds bs e is =
    let as_many = length_areas (depth_parts (middle_of ds)) ds bs in
    let last : length (e.fore ∷ is.between) ≡ length ds - 1 =
    omega (arith, as_many, ap length is.in_order, length-append is.between (e.aft ∷ [])) in
    ap₂ (λ (a b : ℕ). record { fore = a; aft = b })
    (ap (λ (l : List ℕ). get_or l 0 0) (sym is.in_order))
    (sym (get_or_at (e.fore ∷ is.between) e.aft [] 0 (length ds - 1) last) ∙ ap (λ (l : List ℕ). get_or l (length ds - 1) 0) (sym is.in_order))

-- an accepted U has one section more than parts, and so more than one
pub accepted_sections : (t l : Hundredths) (ds bs : List ℕ) → (measured 1 t l ds bs).number ≡ 0
    → (length (section_areas ds bs) ≡ under_deck_parts t l + 1) × (1 < length ds)
unfolding kind_of
accepted_sections t l ds bs z =
    let stations = (under_deck_taken t l ds bs (accepted_taken 1 t l ds bs z)).stations in
    (length_areas (depth_parts (middle_of ds)) ds bs ∙ stations, omega (arith, stations, least (under_deck_even t l)))

-- ---- what they weigh: each once

weighted_last : (n k : ℕ) (xs : List ℕ) (x : ℕ) → weighted_from n k (xs ++ (x ∷ [])) ≡ weighted_from n k xs + multiplier n (k + length xs) * x
weighted_last n k [] x =
    let at : k + 0 ≡ k = omega arith in
    omega (arith, ap (λ (i : ℕ). multiplier n i * x) at)
weighted_last n k (y ∷ xs) x =
    let on : k + 1 + length xs ≡ k + suc (length xs) = omega arith in
    let others = weighted_last n (k + 1) xs x ∙ ap (λ (i : ℕ). weighted_from n (k + 1) xs + multiplier n i * x) on in
    omega (arith, others)

pub ends_weigh : (n : ℕ) (areas : List ℕ) (e : EndAreas) (is : FirstAndLast areas e) → length areas ≡ n + 1
    → weighted n areas ≡ e.fore + weighted_from n 2 is.between + e.aft
unfolding weighted
ends_weigh n areas e is as_many =
    let last : 2 + length is.between ≡ n + 1 =
    omega (arith, as_many, ap length is.in_order, length-append is.between (e.aft ∷ [])) in
    let fore = multiplier_only n 1 1 (first_once refl) in
    let aft = multiplier_only n (2 + length is.between) 1 (last_once last) in
    ap (weighted_from n 1) is.in_order
    ∙ omega (arith, weighted_last n 2 is.between e.aft, ap (λ (i : ℕ). i * e.fore) fore, ap (λ (i : ℕ). i * e.aft) aft)
