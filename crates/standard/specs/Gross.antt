-- Gross and net ("Gross and net"), in hundredths of a ton.
use Rattle.std.specs.Prelude.{ℕ, ◌+◌, ◌-◌, Bool, List, ltb}
use Rattle.measure.specs.Allowances.{hatchway_excess, ballast_over}
use Rattle.spaces.specs.Row.{sum_of}
use Rattle.spaces.specs.declared.space.Space.{Space}
use Rattle.standard.specs.Machinery.{engine_room_deduction}
use Rattle.standard.specs.declared.gross.Reckoning.{Reckoning}
use Rattle.spaces.specs.declared.sums.Amount.TheVariants.{Lengths, Hull, Hatchways, Exempt, Ballast, Deducted, Machinery}

-- "E: all with standing 1 or 2"
abbrev pub all_exempt : List Space → ℕ
all_exempt xs = sum_of Exempt xs + sum_of Ballast xs

-- a gross from what is left of T: "Gross = G + excess", the allowance "taken without the hatchways"
unfoldable pub gross_over : ℕ → ℕ → ℕ
gross_over g hatchways = g + hatchway_excess g hatchways

-- "Let G = T − E."
unfoldable pub gross : List Space → ℕ
gross xs = gross_over (sum_of Hull xs - all_exempt xs) (sum_of Hatchways xs)

-- what is deducted: D, and the deduction for M (T-06 of document 02)
unfoldable pub deductions : List Space → ℕ
deductions xs = sum_of Deducted xs + engine_room_deduction (sum_of Machinery xs) (gross xs)

-- "net = gross − D"; "Net is gross less D less this deduction" (T-06). It is cut off at 0 where they pass gross: no call gives it then (21)
unfoldable pub net : List Space → ℕ
net xs = gross xs - deductions xs

-- 21: "when deductions pass gross" (T-06)
unfoldable pub deductions_pass : List Space → Bool
deductions_pass xs = ltb (gross xs) (deductions xs)

-- "Water ballast: work out gross as above with only standing 1 taken off. If standing 2 adds up to more than 30% of it, the
-- report needs the mark 'justified'"
unfoldable pub needs_mark : List Space → Bool
needs_mark xs = ballast_over (sum_of Ballast xs) (gross_over (sum_of Hull xs - sum_of Exempt xs) (sum_of Hatchways xs))

-- all that a report works out
abbrev pub reckoned : List Space → Reckoning
reckoned xs =
    record {
      lengths = sum_of Lengths xs;
      gross = gross xs;
      net = net xs;
      needs_mark = needs_mark xs;
      deductions_pass = deductions_pass xs;
    }
