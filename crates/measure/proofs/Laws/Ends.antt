-- Laws of the ends of a U: where its offsets are accepted, what is answered are the areas of its first and its last section.
use Rattle.std.proofs.Common.{ℕ, ◌-◌, ◌<◌, ◌≡◌, sym, ap, ap₂, ◌∙◌, true, List, arith, length, take, get_or, get_or-take}
use Rattle.measure.specs.Kinds.{kind_of}
use Rattle.measure.specs.Parts.{depth_parts}
use Rattle.measure.specs.Offsets.{in_range, counted, middle_of, measured}
use Rattle.measure.specs.Ends.{section_areas, ends_of, end_areas}
use Rattle.measure.specs.Handed.{SectionsHanded, Taken}
use Rattle.measure.specs.declared.units.Hundredths.{Hundredths}
use Rattle.measure.specs.declared.kinds.Kind.TheVariants.{UnderDeck}
use Rattle.measure.proofs.Laws.Offsets.{accepted_taken, taken_stations, taken_few, under_deck_taken}

pub ends_taken : (t l : Hundredths) (ds bs : List ℕ) → Taken UnderDeck t l ds bs → end_areas t l ds bs ≡ ends_of ds bs
unfolding end_areas
ends_taken t l ds bs taken = rw (taken.ranged, taken.numbered)

-- whose sections are handed what they ask
pub ends_handed : (t l : Hundredths) (ds bs : List ℕ) → in_range UnderDeck t l ds bs ≡ true → counted UnderDeck t l ds bs ≡ true
    → SectionsHanded (depth_parts (middle_of ds)) ds bs
ends_handed t l ds bs r n = (under_deck_taken t l ds bs (record { ranged = r; numbered = n })).sections

pub ends_some : (t l : Hundredths) (ds bs : List ℕ) → in_range UnderDeck t l ds bs ≡ true → counted UnderDeck t l ds bs ≡ true → 0 < length ds
ends_some t l ds bs r n = omega (arith, taken_stations UnderDeck t l ds bs (record { ranged = r; numbered = n }))

pub ends_accepted : (t l : Hundredths) (ds bs : List ℕ) → (measured 1 t l ds bs).number ≡ 0 → end_areas t l ds bs ≡ ends_of ds bs
unfolding kind_of
ends_accepted t l ds bs z = ends_taken t l ds bs (accepted_taken 1 t l ds bs z)

-- read off places of which the first have the areas
pub ends_found : (ds bs found : List ℕ) → 0 < length ds → take (length ds) found ≡ section_areas ds bs
    → record { fore = get_or found 0 0; aft = get_or found (length ds - 1) 0 } ≡ ends_of ds bs
unfolding ends_of
ends_found ds bs found some e =
    let at : (i : ℕ) → i < length ds → get_or found i 0 ≡ get_or (section_areas ds bs) i 0 =
    λ i h. sym (get_or-take (length ds) found i 0 h) ∙ ap (λ (xs : List ℕ). get_or xs i 0) e in
    ap₂ (λ (a b : ℕ). record { fore = a; aft = b }) (at 0 some) (at (length ds - 1) (omega arith))

-- by which the ends are read off the areas of accepted offsets
pub ruleset ends_read = (ends_handed, ends_some, ends_found, taken_few)
