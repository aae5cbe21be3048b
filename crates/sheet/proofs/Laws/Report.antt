-- What a report tells of the sheet: where it is given, and where none of 1, 2, 13 and 14 refuses it.
use Rattle.std.proofs.Common.{ℕ, ◌≤◌, ◌≡◌, sym, ap, ◌∙◌, Bool, true, false, cond, not, List, [], ◌∷◌, arith, eq-eqb, ltb-false, eqb, ltb}
use borrow.Author.Tests.{not-false}
use Rattle.measure.specs.Refusals.{first_of}
use Rattle.measure.proofs.Laws.Refusals.{Numbered, spliced}
use Rattle.spaces.proofs.Laws.Cases.{by_test}
use Rattle.standard.specs.Gross.{gross, net, deductions_pass}
use Rattle.sheet.specs.Sheet.{standing, usable, length_of, vessel_of, standing_of, standing_count}
use Rattle.sheet.specs.Calls.{lengths_short, ballast_unjustified, tests_to14, deductions_test, report_number, reported, figures_of}
use Rattle.sheet.specs.declared.sheet.Sheet.{Sheet}
use Rattle.sheet.specs.declared.calls.Reported.{Reported}
use Rattle.sheet.specs.declared.calls.Figures.{Figures}
use Rattle.sheet.proofs.Laws.Calls.{passed, after_call}

-- the tests of a report from the one of a number on
abbrev pub from_14 : Sheet → ℕ → List (Bool × ℕ)
from_14 s j = (ballast_unjustified s j, 14) ∷ deductions_test s

abbrev pub from_13 : Sheet → ℕ → List (Bool × ℕ)
from_13 s j = (lengths_short s, 13) ∷ from_14 s j

abbrev pub from_2 : Sheet → ℕ → List (Bool × ℕ)
from_2 s j = (ltb 1 j, 2) ∷ from_13 s j

-- the report in hand, where it is given
pub record Given (s : Sheet) (justified : ℕ) (r : Reported) : Type 0 where
  pub number_is : (reported s justified).number ≡ 0
  pub is_usable : usable s ≡ true
  pub marked : justified ≤ 1
  pub none_pass : deductions_pass (standing s) ≡ false
  pub gross_is : r.gross ≡ gross (standing s)
  pub net_is : r.net ≡ net (standing s)

pub given : (s : Sheet) (justified : ℕ) (r : Reported) → r ≡ reported s justified → r.number ≡ 0 → Given s justified r
unfolding reported
given s justified r e none =
    let z : report_number s justified ≡ 0 = sym (ap (λ (x : Reported). x.number) e) ∙ none in
    let one = passed (not (usable s)) 1 (from_2 s justified) z (λ w. omega arith) in
    let two = passed (ltb 1 justified) 2 (from_13 s justified) one.1 (λ w. omega arith) in
    let thirteen = passed (lengths_short s) 13 (from_14 s justified) two.1 (λ w. omega arith) in
    let fourteen = passed (ballast_unjustified s justified) 14 (deductions_test s) thirteen.1 (λ w. omega arith) in
    let twenty-one = passed (deductions_pass (standing s)) 21 [] fourteen.1 (λ w. omega arith) in
    let zero : eqb (report_number s justified) 0 ≡ true = eq-eqb (report_number s justified) 0 z in
    record {
      number_is = z;
      is_usable = not-false (usable s) one.0;
      marked = ltb-false 1 justified two.0;
      none_pass = twenty-one.0;
      gross_is = ap (λ (x : Reported). x.gross) e ∙ ap (λ (t : Bool). cond t (gross (standing s)) 0) zero;
      net_is = ap (λ (x : Reported). x.net) e ∙ ap (λ (t : Bool). cond t (net (standing s)) 0) zero;
    }

-- the same of its figures alone
pub given_figures : (s : Sheet) (justified : ℕ) (r : Figures) → r ≡ figures_of s justified → r.number ≡ 0
    → Given s justified (record { number = r.number; gross = r.gross; net = r.net; sheet = s })
unfolding reported
given_figures s justified r e =
    given s justified _ (ap (λ (f : Figures). record { number = f.number; gross = f.gross; net = f.net; sheet = s }) e)

-- none of its numbers is 0
pub tests_numbered : (s : Sheet) (justified : ℕ) (outside : Bool) → Numbered (tests_to14 s justified outside)
tests_numbered s justified outside = (omega arith, (omega arith, (omega arith, (omega arith, tt))))

-- where none of 1, 2, 13 and 14 applies, 21 is what is left of a report; and none of them does where it is given
pub past_14 : (s : Sheet) (justified : ℕ) → first_of (tests_to14 s justified (ltb 1 justified)) ≡ 0
    → (reported s justified).number ≡ cond (deductions_pass (standing s)) 21 0
unfolding reported
past_14 s justified z = sym (spliced (tests_to14 s justified (ltb 1 justified)) (deductions_test s) (tests_numbered s justified (ltb 1 justified))) ∙ rw z

pub given_past_14 : (s : Sheet) (justified : ℕ) → (reported s justified).number ≡ 0 → first_of (tests_to14 s justified (ltb 1 justified)) ≡ 0
unfolding reported
given_past_14 s justified z =
    let tests = tests_to14 s justified (ltb 1 justified) in
    (after_call (first_of tests) (deductions_test s) (spliced tests (deductions_test s) (tests_numbered s justified (ltb 1 justified)) ∙ z)).0

-- of the figures alone: their number tells 21, and else they are gross and net
pub record PastFourteen (s : Sheet) (r : Figures) : Type 0 where
  pub is_usable : usable s ≡ true
  pub pass_is : eqb r.number 21 ≡ deductions_pass (standing s)
  pub figures_are : eqb r.number 21 ≡ false → (r.gross ≡ gross (standing s)) × (r.net ≡ net (standing s))

pub figures_past_14 : (s : Sheet) (justified : ℕ) (r : Figures) → r ≡ figures_of s justified → first_of (tests_to14 s justified (ltb 1 justified)) ≡ 0 → PastFourteen s r
unfolding reported
figures_past_14 s justified r e z =
    let pass = deductions_pass (standing s) in
    let number_is : r.number ≡ cond pass 21 0 = ap (λ (f : Figures). f.number) e ∙ past_14 s justified z in
    let pass_is : eqb r.number 21 ≡ pass = rw number_is (by_test pass (λ t. rw t) (λ f. rw f)) in
    record {
      is_usable = by_test (usable s) (λ on. on) (λ off. let never : ◌≡◌ {A = ℕ} 1 0 = rw off at z in absurd (omega arith));
      pass_is = pass_is;
      figures_are =
          λ within.
          let none : r.number ≡ 0 = number_is ∙ rw (sym pass_is ∙ within) in
          let g = given_figures s justified r e none in
          (g.gross_is, g.net_is);
    }

-- what a usable sheet hands out is what it holds
pub record HandedOut (s : Sheet) : Type 0 where
  pub length_is : length_of s ≡ s.length
  pub vessel_is : vessel_of s ≡ s.vessel
  pub standing_are : standing_of s ≡ standing s
  pub count_is : standing_count s ≡ s.count

pub handed_out : (s : Sheet) → usable s ≡ true → HandedOut s
unfolding length_of vessel_of standing_of standing_count
handed_out s e = record { length_is = rw e; vessel_is = rw e; standing_are = rw e; count_is = rw e }
