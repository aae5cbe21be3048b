-- Laws of the roundings that a space passes on.
use Rattle.std.proofs.Common.{◌≡◌, refl, sym, ap, ◌∙◌, List, [], ◌∷◌, ◌++◌, map, ℕ, ◌+◌, ◌-◌, ◌≤◌, ◌<◌, add-one, arith, eq-eqb, ℤ, pos, length, take, set, get_or, replicate, length-take-le, take-suc}
use mathlib.Core.List.{map-append}
use lib.ListN.{length-map}
use Rattle.measure.specs.Kinds.{kind_of}
use Rattle.measure.specs.Thirds.{rounding_of_depth}
use Rattle.measure.specs.Volumes.{hundredths}
use Rattle.measure.specs.Offsets.{measured}
use Rattle.measure.specs.Roundings.{of_depths, passed_on, measured_offsets}
use Rattle.measure.specs.declared.units.Hundredths.{Hundredths}
use Rattle.measure.proofs.Laws.Lists.{filled_more}

-- one station more
pub depths_more : (m i : ℕ) (depths : List ℕ) → i < length depths → length depths ≤ 17
    → set (of_depths m (take i depths)) i (rounding_of_depth (hundredths (get_or depths i 0)) m) ≡ of_depths m (take (i + 1) depths)
unfolding of_depths
depths_more m i depths h few =
    let of : ℕ → ℤ = λ (d : ℕ). rounding_of_depth (hundredths d) m in
    let x = get_or depths i 0 in
    let before = take i depths in
    let count = length-take-le i depths (omega arith) in
    let count' = length-take-le (i + 1) depths (omega arith) in
    let next : take (i + 1) depths ≡ before ++ (x ∷ []) = ap (λ (k : ℕ). take k depths) (add-one i) ∙ take-suc depths i 0 h in
    ap (λ (k : ℕ). set (map of before ++ replicate (17 - k) (pos 0)) i (of x)) count
    ∙ filled_more (map of before) (pos 0) (of x) 17 i (length-map before of ∙ count) (omega arith)
    ∙ ap (λ (l : List ℤ). l ++ replicate (17 - (i + 1)) (pos 0)) (sym (map-append of before (x ∷ [])) ∙ ap (map of) (sym next))
    ∙ ap (λ (k : ℕ). map of (take (i + 1) depths) ++ replicate (17 - k) (pos 0)) (sym count')

-- measuring's number and tonnage are those it has without the roundings, and accepted offsets pass theirs on
module _ (code : ℕ) (t l : Hundredths) (hs bs : List ℕ) where
  pub measured_of : (measured_offsets code t l hs bs).measured ≡ measured code t l hs bs
  unfolding measured_offsets
  measured_of = refl

  pub roundings_of : (measured code t l hs bs).number ≡ 0 → (measured_offsets code t l hs bs).roundings ≡ passed_on (kind_of code) t l hs
  unfolding measured_offsets
  roundings_of accepted = simp (eq-eqb _ 0 accepted)
