-- "A whole sheet" of document 01: the theorems apply to it, and "The file has 108 bytes". Stands on WrittenRead.
use Rattle.std.proofs.Common.{ℕ, ◌≡◌, refl, ap, true, false, [], ◌∷◌, arith, length}
use Rattle.measure.specs.Volumes.{hundredths}
use Rattle.measure.specs.Rounding.{nearest}
use Rattle.measure.specs.Kinds.{kind_of}
use Rattle.measure.specs.Ranges.{includes}
use Rattle.measure.specs.Allowances.{hatchway_allowance, hatchway_excess, ballast_over}
use Rattle.standard.specs.Standings.{may_take}
use Rattle.spaces.specs.Enclosure.{above}
use Rattle.standard.specs.Machinery.{engine_room_deduction}
use Rattle.standard.specs.Gross.{gross_over, gross, deductions, net, deductions_pass, needs_mark}
use Rattle.sheet.specs.Sheet.{standing, usable, blank}
use Rattle.sheet.specs.Calls.{reported}
use Rattle.standard.specs.Records.{record_number}
use Rattle.sheet.specs.declared.sheet.Sheet.{Sheet}
use Rattle.sheet.specs.declared.calls.Reported.{Reported}
use Rattle.sheet_laws.proofs.Resumable.{resumable_exactly}
use Rattle.dayfile.specs.Forms.{is_form, form_of}
use Rattle.dayfile.specs.Writing.{sheet_bytes, loses_number}
use Rattle.dayfile_laws.specs.Day.{ResumableSheet, Writable, sheet_with}
use Rattle.dayfile_laws.proofs.WrittenRead.{length_bytes}

-- "tonnage length 4800; space 1 the U above; 2 the S above; 3 a room in 1, standing 2 ..; 4 a room in 2, standing 3 ..; 5 a hatchway"
abbrev pub whole_sheet : Sheet
whole_sheet =
    sheet_with (hundredths 4800) 0
    (record { id = 1; within = 0; kind = 1; standing = 0; m = 4; deck = 0; tonnage = 11521; length = hundredths 4800 }
    ∷ record { id = 2; within = 0; kind = 3; standing = 0; m = 0; deck = 0; tonnage = 1280; length = hundredths 1600 }
    ∷ record { id = 3; within = 1; kind = 5; standing = 2; m = 0; deck = 0; tonnage = 400; length = hundredths 1000 }
    ∷ record { id = 4; within = 2; kind = 5; standing = 3; m = 0; deck = 0; tonnage = 320; length = hundredths 800 }
    ∷ record { id = 5; within = 0; kind = 4; standing = 0; m = 0; deck = 0; tonnage = 100; length = hundredths 500 }
    ∷ [])

resumes : ResumableSheet whole_sheet
unfolding includes kind_of may_take above blank record_number
resumes =
    record {
      places = refl;
      vessel_in_range = omega arith;
      length_in_range = refl;
      resumable = (resumable_exactly (hundredths 4800) (standing whole_sheet)).0 refl;
    }

-- "GROSS 124.39", "NET 121.19"
pub whole_report : reported whole_sheet 0 ≡ record { number = 0; gross = 12439; net = 12119; sheet = whole_sheet }
unfolding nearest hatchway_allowance hatchway_excess ballast_over engine_room_deduction gross_over gross deductions net deductions_pass needs_mark usable blank reported
whole_report = refl

pub whole_sheet_writable : (form : ℕ) → is_form form ≡ true → loses_number (form_of form) whole_sheet ≡ false → Writable whole_sheet 0 form
whole_sheet_writable form known none_lost =
    record { sheet = resumes; reports = ap (λ (r : Reported). r.number) whole_report; known = known; none_lost = none_lost }

-- "The file has 108 bytes"; in form 2 it has 132
pub bytes_108 : length (sheet_bytes whole_sheet 0 1) ≡ 108
unfolding form_of loses_number blank
bytes_108 = length_bytes whole_sheet 0 1 (whole_sheet_writable 1 refl refl)

pub bytes_132 : length (sheet_bytes whole_sheet 0 2) ≡ 132
unfolding form_of loses_number blank
bytes_132 = length_bytes whole_sheet 0 2 (whole_sheet_writable 2 refl refl)
