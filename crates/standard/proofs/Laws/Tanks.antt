-- A tank judged by what is around it and by its U is judged as the definition has it.
use Rattle.std.proofs.Common.{ℕ, ◌≡◌, ap, ◌∙◌, not, ◌&&◌, ◌||◌, List, [], ◌∷◌, Option, arith, eqb}
use Rattle.measure.specs.Refusals.{first_of}
use Rattle.measure.specs.declared.units.Hundredths.{Hundredths}
use Rattle.measure.proofs.Laws.Refusals.{spliced}
use Rattle.spaces.specs.declared.space.Space.{Space}
use Rattle.standard.specs.Rules.{tests_of}
use Rattle.standard.specs.Tanks.{in_no_under_deck, past_end, measurable_in, without_m, tank_number}
use Rattle.standard.specs.Handed.{overfull_by, misplaced_by, judged_number, SeenAs}
use Rattle.standard.specs.declared.rules.Seen.{Seen}
use Rattle.standard.proofs.Laws.Judged.{judged_is, overfull_is, misplaced_is}

module _ (L : Hundredths) (xs : List Space) (x : Space) (f : Hundredths) (r : Seen) (is : SeenAs xs x r) where
  abbrev o : Option Space
  o = r.found

  -- as the code has it: the number of the tests of 4 to 10, by the space that encloses
  abbrev number_by : ℕ
  number_by =
      judged_number x o r.around
      (misplaced_by x o || in_no_under_deck o)
      (past_end o x f || (measurable_in o x f && overfull_by L x o r.around.beside))
      r.full

  -- then 29
  pub number_is : first_of ((not (eqb number_by 0), number_by) ∷ (without_m o, 29) ∷ []) ≡ tank_number L xs x f
  unfolding tank_number
  number_is =
      let e = is.found_is in
      let wrong = misplaced_by x o || in_no_under_deck o in
      let over = past_end o x f || (measurable_in o x f && overfull_by L x o r.around.beside) in
      ap (λ (n : ℕ). first_of ((not (eqb n 0), n) ∷ (without_m o, 29) ∷ [])) (judged_is L xs x o r.around r.full e is.around_is is.full_is wrong over)
      ∙ spliced (tests_of xs x wrong over) ((without_m o, 29) ∷ []) (omega arith)
      ∙ rw (misplaced_is L xs x o r.around r.full e is.around_is is.full_is, overfull_is L xs x o r.around r.full e is.around_is is.full_is, e)
