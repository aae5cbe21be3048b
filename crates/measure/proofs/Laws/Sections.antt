-- Laws of a tank's sections: one station taken off the front, and how many there are.
use Rattle.std.proofs.Common.{◌≡◌, refl, sym, ap, ◌∙◌, Bool, true, false, cond, List, [], ◌∷◌, ◌++◌, map, ℕ, zero, suc, ◌+◌, ◌-◌, ◌*◌, ◌≤◌, ◌<◌, zero-le, arith, length, get_or}
use Rattle.measure.specs.Sections.{between_zones, between_from, doubled, sections_over, sections, zone_of_station, zones_at, zones_from}
use Rattle.measure.specs.declared.sections.Layout.{Layout}
use Rattle.std.specs.List.{sum}
use Rattle.std.specs.Int.{from_bool}
use Rattle.std.proofs.lemmas.List.Recursion.{is_sum_by}
use Rattle.std.proofs.lemmas.List.Sums.{sum-map}

-- of stations, those from j on are one more than those from j + 1 on
left_step : (stations j : ℕ) → j < stations → stations - j ≡ suc (stations - (j + 1))
left_step stations j h = omega arith

-- ---- which are doubled

pub between_step : (a : Layout) (j stations : ℕ) → j < stations
    → between_from a j (stations - j) ≡ between_zones a j ∷ between_from a (j + 1) (stations - (j + 1))
between_step a j stations h = ap (between_from a j) (left_step stations j h)

length_between : (a : Layout) (j left : ℕ) → length (between_from a j left) ≡ left
length_between a j zero = refl
length_between a j (suc left) = ap suc (length_between a (j + 1) left)

pub length_doubled : (a : Layout) → length (doubled a) ≡ a.p + 1
length_doubled a = length_between a 0 (a.p + 1)

-- ---- how many there are

one_or_two : (two : Bool) → cond two 2 1 ≡ 1 + from_bool two
one_or_two true = refl
one_or_two false = refl

pub sections_sum : (two : List Bool) → sections_over two ≡ sum (map (λ (b : Bool). 1 + from_bool b) two)
sections_sum two =
    is_sum_by sections_over (λ (b : Bool). 1 + from_bool b) refl (λ b later. ap (λ (n : ℕ). n + sections_over later) (one_or_two b)) two
    ∙ sym (sum-map (λ (b : Bool). 1 + from_bool b) two)

-- no more than two a station
pub sections_most : (two : List Bool) → sections_over two ≤ 2 * length two
sections_most [] = zero-le
sections_most (true ∷ two) = omega (arith, sections_most two)
sections_most (false ∷ two) = omega (arith, sections_most two)

pub tank_sections_most : (a : Layout) → sections a ≤ 2 * (a.p + 1)
unfolding sections
tank_sections_most a = rw (length_doubled a) at (sections_most (doubled a))

-- ---- the zones of the sections

zones_step : (a : Layout) (j stations : ℕ) → j < stations
    → zones_from a j (stations - j) ≡ zones_at a j ++ zones_from a (j + 1) (stations - (j + 1))
zones_step a j stations h = ap (zones_from a j) (left_step stations j h)

-- of one or two sections, and of those behind them
at_front : (k : ℕ) (two : Bool) (later : List ℕ) (i : ℕ) → i < 1 + from_bool two
    → get_or ((k ∷ cond two ((k + 1) ∷ []) []) ++ later) i 0 ≡ k + i
at_front k two later zero h = omega arith
at_front k true later (suc zero) h = omega arith
at_front k true later (suc (suc i)) h = absurd (omega arith)
at_front k false later (suc i) h = absurd (omega arith)

behind_front : (k : ℕ) (two : Bool) (later : List ℕ) (i : ℕ) → 1 + from_bool two ≤ i
    → get_or ((k ∷ cond two ((k + 1) ∷ []) []) ++ later) i 0 ≡ get_or later (i - (1 + from_bool two)) 0
behind_front k two later zero h = absurd (omega arith)
behind_front k true later (suc zero) h = absurd (omega arith)
behind_front k true later (suc (suc i)) h = let e : i ≡ suc (suc i) - 2 = omega arith in ap (λ (n : ℕ). get_or later n 0) e
behind_front k false later (suc i) h = let e : i ≡ suc i - 1 = omega arith in ap (λ (n : ℕ). get_or later n 0) e

module _ (a : Layout) (j stations i : ℕ) (h : j < stations) where
  pub zone_here : i < 1 + from_bool (between_zones a j) → get_or (zones_from a j (stations - j)) i 0 ≡ zone_of_station a j + i
  zone_here lt =
      ap (λ (l : List ℕ). get_or l i 0) (zones_step a j stations h)
      ∙ at_front (zone_of_station a j) (between_zones a j) (zones_from a (j + 1) (stations - (j + 1))) i lt

  pub zone_later : 1 + from_bool (between_zones a j) ≤ i
      → get_or (zones_from a j (stations - j)) i 0 ≡ get_or (zones_from a (j + 1) (stations - (j + 1))) (i - (1 + from_bool (between_zones a j))) 0
  zone_later le =
      ap (λ (l : List ℕ). get_or l i 0) (zones_step a j stations h)
      ∙ behind_front (zone_of_station a j) (between_zones a j) (zones_from a (j + 1) (stations - (j + 1))) i le
