-- The sheet of some spaces with no open changes, which reading answers. Stands on nothing of the file.
use Rattle.std.proofs.Common.{ℕ, ◌≤◌, ◌≡◌, refl, ap, ap₂, ◌∙◌, true, List, arith, le-leb, length, drop, replicate, length-append, length-drop}
use lib.ListN.{length-replicate}
use lib.Seq.{take-append_seam}
use Rattle.measure.specs.declared.units.Hundredths.{Hundredths}
use Rattle.spaces.specs.Space.{empty_space}
use Rattle.spaces.specs.declared.space.Space.{Space}
use Rattle.standard.specs.Gross.{reckoned}
use Rattle.standard.specs.declared.gross.Reckoning.{Reckoning}
use Rattle.sheet.specs.Sheet.{standing, usable, blank}
use Rattle.sheet.specs.Calls.{counted, reported}
use Rattle.sheet.specs.declared.sheet.Sheet.{Sheet}
use Rattle.dayfile_laws.specs.Day.{sheet_with}

module _ (L : Hundredths) (vessel : ℕ) (xs : List Space) where
  pub standing_same : standing (sheet_with L vessel xs) ≡ xs
  standing_same = take-append_seam xs (drop (length xs) (blank true L vessel).spaces)

  pub length_same : (sheet_with L vessel xs).length ≡ L
  unfolding blank
  length_same = refl

  pub vessel_same : (sheet_with L vessel xs).vessel ≡ vessel
  unfolding blank
  vessel_same = refl

  pub is_usable : length xs ≤ 200 → usable (sheet_with L vessel xs) ≡ true
  unfolding usable blank
  is_usable few = rw (le-leb (length xs) 200 few)

  pub has_200_places : length xs ≤ 200 → length (sheet_with L vessel xs).spaces ≡ 200
  unfolding blank
  has_200_places few =
      let free = replicate 200 empty_space in
      length-append xs (drop (length xs) free) ∙ omega (arith, length-drop (length xs) free, length-replicate 200 empty_space)

  -- "with no open changes"
  pub none_open : length xs ≤ 200 → ((counted (sheet_with L vessel xs)).undoable ≡ 0) × ((counted (sheet_with L vessel xs)).redoable ≡ 0)
  unfolding counted blank
  none_open few = let u = is_usable few in (rw u, rw u)

  -- made of its own spaces it is the same again
  pub made_again : (let s = sheet_with L vessel xs in sheet_with s.length s.vessel (standing s) ≡ s)
  made_again =
      let s = sheet_with L vessel xs in
      ap₂ (λ (l : Hundredths) (v : ℕ). sheet_with l v (standing s)) length_same vessel_same ∙ ap (sheet_with L vessel) standing_same

-- a report asks no more of an open sheet than what is reckoned of its standing spaces, and its tonnage length
pub same_report : (a b : Sheet) (justified : ℕ) → usable a ≡ true → usable b ≡ true → reckoned (standing a) ≡ reckoned (standing b) → a.length ≡ b.length
    → (reported a justified).number ≡ (reported b justified).number
unfolding reported
same_report a b justified ua ub es el =
    let lengths = ap (λ (r : Reckoning). r.lengths) es in
    let mark = ap (λ (r : Reckoning). r.needs_mark) es in
    let pass = ap (λ (r : Reckoning). r.deductions_pass) es in
    rw (ua, ub, lengths, mark, pass, el)
