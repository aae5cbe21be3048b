-- Gross, net and the water ballast ("Gross and net"), each part with its own equation and nothing cut off but the excess; and what machinery
-- rooms change in them (T-06 of document 02).
use Rattle.std.specs.Prelude.{ℕ, ◌+◌, ◌-◌, ◌*◌, ◌<◌, ◌≡◌, false, not, List}
use Rattle.measure.specs.Rounding.{Nearest}
use Rattle.spaces.specs.Space.{is_plain}
use Rattle.spaces.specs.Row.{only, sum_of}
use Rattle.standard.specs.Gross.{all_exempt, gross, net, deductions_pass}
use Rattle.spaces.specs.declared.space.Space.{Space}
use Rattle.spaces.specs.declared.sums.Amount.TheVariants.{Hull, Hatchways, Exempt, Ballast, Deducted, Machinery}
use Rattle.spaces_laws.specs.Above.{◌∈◌}
use Rattle.spaces_laws.specs.Machinery.{Deduction}

-- "E + D + M" (T-06): all that is taken off, with M itself and not the deduction for it
abbrev pub taken_off : List Space → ℕ
taken_off xs = all_exempt xs + sum_of Deducted xs + sum_of Machinery xs

-- the tonnage of a space that isn't plain
abbrev pub taken_tons : Space → ℕ
taken_tons y = only (not (is_plain y)) y.tonnage

-- the gross of the spaces xs with so much of T taken off
pub record GrossLess (off : ℕ) (xs : List Space) (gross : ℕ) : Type 0 where
  pub g : ℕ
  pub allowance : ℕ
  -- "Let G = T − E", whatever E is here
  pub whole_less_off : g + off ≡ sum_of Hull xs
  -- "The hatchway allowance is G/200, nearest, taken without the hatchways"
  pub allowance_is : Nearest g 200 allowance
  -- "the excess is the sum of all H less the allowance, or 0. Gross = G + excess"
  pub gross_is : gross ≡ g + (sum_of Hatchways xs - allowance)

-- "work out gross as above with only standing 1 taken off. If standing 2 adds up to more than 30% of it"
pub record OverThirtyPercent (xs : List Space) : Type 0 where
  pub gross : ℕ
  pub with_only_standing_1_off : GrossLess (sum_of Exempt xs) xs gross
  -- more than 3 tenths of it
  pub more : 3 * gross < 10 * sum_of Ballast xs

-- 21: "when deductions pass gross" (T-06), D and the deduction for M together
pub record DeductionsPass (xs : List Space) : Type 0 where
  pub deduction : ℕ
  pub for_machinery : Deduction (sum_of Machinery xs) (gross xs) deduction
  pub more : gross xs < sum_of Deducted xs + deduction

-- ---- sheets without machinery rooms have the figures they had

-- none that stands is a machinery room
abbrev pub WithoutMachinery : List Space → Type 0
WithoutMachinery xs = (y : Space) → y ∈ xs → y.standing ≡ 4 → ⊥

-- net is document 01's, "net = gross − D", with nothing cut off, and no deductions pass gross. On gross and on the mark that the water
-- ballast needs there is nothing to say: they are worked out without M on every sheet.
pub record FiguresAsBefore (xs : List Space) : Type 0 where
  pub net_and_deducted : net xs + sum_of Deducted xs ≡ gross xs
  pub none_pass : deductions_pass xs ≡ false
