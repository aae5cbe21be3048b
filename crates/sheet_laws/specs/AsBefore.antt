-- What a report was before machinery rooms (T-06 of document 02). Of a sheet without them it is so still (proofs/AsBefore).
use Rattle.std.specs.Prelude.{ℕ, ◌+◌, ◌≡◌, false, ltb}
use Rattle.measure.specs.Refusals.{first_of}
use Rattle.spaces.specs.Row.{sum_of}
use Rattle.spaces.specs.declared.sums.Amount.TheVariants.{Deducted}
use Rattle.standard.specs.Gross.{gross, deductions_pass}
use Rattle.sheet.specs.Sheet.{standing}
use Rattle.sheet.specs.Calls.{tests_to14, reported}
use Rattle.sheet.specs.declared.sheet.Sheet.{Sheet}

pub record ReportAsBefore (s : Sheet) (justified : ℕ) : Type 0 where
  -- the first of 1, 2, 13 and 14 that applies, and never 21
  pub number_is : (reported s justified).number ≡ first_of (tests_to14 s justified (ltb 1 justified))
  -- nor in a write or a reading
  pub none_pass : deductions_pass (standing s) ≡ false
  -- where it is given, "Gross = G + excess; net = gross − D", with nothing cut off
  pub gross_is : (reported s justified).number ≡ 0 → (reported s justified).gross ≡ gross (standing s)
  pub net_and_deducted : (reported s justified).number ≡ 0 → (reported s justified).net + sum_of Deducted (standing s) ≡ (reported s justified).gross
