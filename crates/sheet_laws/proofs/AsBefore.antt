-- Sheets without machinery rooms have the figures they had (T-06 of document 02): a report of one is what it was, its number too. Stands
-- on nothing else here.
use Rattle.std.proofs.Common.{ℕ, ◌≡◌, refl, ap, Bool, [], ◌∷◌, ◌++◌, arith, ltb}
use Rattle.measure.specs.declared.units.Hundredths.{Hundredths}
use Rattle.measure.specs.Refusals.{first_of}
use Rattle.standard.specs.Valid.{Valid}
use Rattle.spaces_laws.specs.Gross.{WithoutMachinery}
use Rattle.spaces_laws.proofs.Report.{as_before}
use Rattle.sheet.specs.Sheet.{standing}
use Rattle.sheet.specs.Calls.{tests_to14, reported}
use Rattle.sheet.specs.declared.sheet.Sheet.{Sheet}
use Rattle.sheet.proofs.Laws.Report.{Given, given}
use Rattle.sheet_laws.specs.AsBefore.{ReportAsBefore}

-- the last of its tests, for 21, never applies
pub report_as_before : {L : Hundredths} (s : Sheet) → Valid L (standing s) → WithoutMachinery (standing s) → (justified : ℕ) → ReportAsBefore s justified
unfolding reported
report_as_before s v without justified =
    let before = as_before v without in
    let told : (reported s justified).number ≡ 0 → Given s justified (reported s justified) = given s justified (reported s justified) refl in
    record {
      number_is = ap (λ (pass : Bool). first_of (tests_to14 s justified (ltb 1 justified) ++ ((pass, 21) ∷ []))) before.none_pass;
      none_pass = before.none_pass;
      gross_is = λ z. (told z).gross_is;
      net_and_deducted = λ z. omega (arith, (told z).gross_is, (told z).net_is, before.net_and_deducted);
    }
