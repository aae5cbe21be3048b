-- The starred figures of document 01, all of them, as one table about the definitions: those of one space (measure_laws) and those
-- of gross and the water ballast, on sheets of a few recorded spaces.
use Rattle.std.proofs.Common.{ℕ, ◌≡◌, refl, true, List, [], ◌∷◌, arith}
use Rattle.measure.specs.Rounding.{nearest}
use Rattle.measure.specs.Volumes.{hundredths}
use Rattle.measure.specs.Allowances.{hatchway_allowance, hatchway_excess, ballast_over}
use Rattle.measure_laws.proofs.Figures as measured
use Rattle.spaces.specs.Row.{sum_of}
use Rattle.standard.specs.Machinery.{engine_room_deduction}
use Rattle.standard.specs.Gross.{gross_over, gross, deductions, deductions_pass, needs_mark}
use Rattle.spaces.specs.declared.space.Space.{Space}
use Rattle.spaces.specs.declared.sums.Amount.TheVariants.{Exempt}
use Rattle.spaces_laws.specs.Gross.{GrossLess}
use Rattle.spaces_laws.proofs.Report.{gross_less_is}
use Rattle.sheet.specs.Sheet.{usable, blank}
use Rattle.sheet.specs.Changes.{with_standing}
use Rattle.sheet.specs.Calls.{reported}
use Rattle.sheet.specs.declared.sheet.Sheet.{Sheet}

-- a U as long as the tonnage length 4800, a hatchway, a water ballast room in the U, and an exempt S, of these tonnages
abbrev pub hull : ℕ → Space
hull tonnage = record { id = 1; within = 0; kind = 1; standing = 0; m = 4; deck = 0; tonnage = tonnage; length = hundredths 4800 }

abbrev pub hatchway : ℕ → Space
hatchway tonnage = record { id = 2; within = 0; kind = 4; standing = 0; m = 0; deck = 0; tonnage = tonnage; length = hundredths 500 }

abbrev pub ballast : ℕ → Space
ballast tonnage = record { id = 3; within = 1; kind = 5; standing = 2; m = 0; deck = 0; tonnage = tonnage; length = hundredths 500 }

abbrev pub exempted : ℕ → Space
exempted tonnage = record { id = 4; within = 0; kind = 3; standing = 1; m = 0; deck = 0; tonnage = tonnage; length = hundredths 500 }

-- spaces whose gross with only standing 1 taken off is 1000, and T 1200: 30% of T, or of what standing 2 leaves, would answer otherwise
abbrev pub ballasted : ℕ → List Space
ballasted tonnage = hull 1000 ∷ exempted 200 ∷ ballast tonnage ∷ []

abbrev pub sheet : List Space → Sheet
sheet xs = with_standing xs (blank true (hundredths 4800) 0)

pub record Starred : Type 0 where
  pub of_one_space : measured.Figures
  -- "G 20000, hatchways 100 / 101: excess 0 / 1"
  pub excess_100 : gross (hull 20000 ∷ hatchway 100 ∷ []) ≡ 20000
  pub excess_101 : gross (hull 20000 ∷ hatchway 101 ∷ []) ≡ 20001
  -- "ballast 300 / 301, where gross with only standing 1 taken off is 1000, not justified: given / 14"
  pub gross_1000 : (n : ℕ) → GrossLess (sum_of Exempt (ballasted n)) (ballasted n) 1000
  pub ballast_300 : (reported (sheet (ballasted 300)) 0).number ≡ 0
  pub ballast_301 : (reported (sheet (ballasted 301)) 0).number ≡ 14
  pub justified_301 : (reported (sheet (ballasted 301)) 1).number ≡ 0

pub starred : Starred
unfolding nearest hatchway_allowance hatchway_excess ballast_over engine_room_deduction gross_over gross deductions deductions_pass needs_mark usable blank reported
starred =
    record {
      of_one_space = measured.figures;
      excess_100 = refl;
      excess_101 = refl;
      gross_1000 = λ n. gross_less_is 200 (ballasted n) (omega arith);
      ballast_300 = refl;
      ballast_301 = refl;
      justified_301 = refl;
    }
