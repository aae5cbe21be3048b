-- The measures of a list, one number after the other.
use Rattle.std.proofs.Common.{ℕ, ◌+◌, ◌<◌, min, ◌≡◌, sym, ap, ◌∙◌, true, false, List, [], map, arith, eqb, length, take, get_or, length-take}
use lib.ListN.{length-map}
use Rattle.std.proofs.lemmas.List.{get_or-map}
use Rattle.std.specs.List.{slice_split, enumerate_from}
use Rattle.std.proofs.lemmas.List.FromFn.{length-enumerate_from}
use Rattle.script.specs.Laid.{fitting}
use Rattle.script.specs.Words.{parts_of, marks_in, is_empty_list, measure_of, measures_of}
use Rattle.script.proofs.Laws.Laid.{listed}
use Rattle.script.proofs.Laws.Parts.{parts_counted, parts_split}

pub no_measures : (list : List ℕ) → is_empty_list list ≡ true → measures_of list ≡ []
unfolding measures_of
no_measures list e = rw e

pub measures_listed : (list : List ℕ) (n : ℕ)
    → length (enumerate_from 0 (take n (slice_split (λ b. eqb b 44) list))) ≡ min n (marks_in 44 list + 1)
measures_listed list n =
    let parts = slice_split (λ b. eqb b 44) list in
    omega (arith, length-enumerate_from 0 (take n parts), length-take n parts, ap length (parts_split 44 list), parts_counted 44 list)

module _ (list : List ℕ) (some : is_empty_list list ≡ false) where
  some_measures : measures_of list ≡ map measure_of (parts_of 44 list)
  unfolding measures_of
  some_measures = rw some

  pub measures_length : length (measures_of list) ≡ marks_in 44 list + 1
  measures_length = ap length some_measures ∙ length-map (parts_of 44 list) measure_of ∙ omega (arith, parts_counted 44 list)

  -- once the first numbers are passed, as many as there are places, those that fit are
  pub all_passed : (array : List ℕ) (k : ℕ) → k ≡ length (enumerate_from 0 (take (length array) (slice_split (λ b. eqb b 44) list))) → k ≡ fitting (measures_of list) array
  all_passed array k e = omega (arith, measures_length, measures_listed list (length array))

  -- what a turn over the first n numbers, each with its place, gives
  pub measure_listed : (n place k : ℕ) (number : List ℕ)
      → (k < length (enumerate_from 0 (take n (slice_split (λ b. eqb b 44) list))))
      × ((place, number) ≡ get_or (enumerate_from 0 (take n (slice_split (λ b. eqb b 44) list))) k (place, number))
      → (place ≡ k) × (k < n) × (k < length (measures_of list)) × (measure_of number ≡ get_or (measures_of list) k 0)
  measure_listed n place k number here =
      let turn = listed (slice_split (λ b. eqb b 44) list) n place k number here in
      let is : number ≡ get_or (parts_of 44 list) k number = turn.3 ∙ ap (λ (l : List (List ℕ)). get_or l k number) (parts_split 44 list) in
      let within : k < length (parts_of 44 list) = omega (arith, turn.2, ap length (parts_split 44 list)) in
      let measure = ap measure_of is ∙ sym (get_or-map measure_of (parts_of 44 list) k number 0 within) ∙ ap (λ (l : List ℕ). get_or l k 0) (sym some_measures) in
      (turn.0, turn.1, omega (arith, measures_length, parts_counted 44 list), measure)
