-- `Sheet::resume` meets its contract.
use Rattle.std.proofs.Common.{sym, ap, ◌∙◌, ℕ, List, ◌++◌, length, drop, eq-eqb, ne_eqb}
use Rattle.std.proofs.lemmas.List.{length-map}
use Rattle.measure.proofs.Laws.Tests.{as_answered}
use Rattle.spaces.specs.Space.{recorded, all_recorded}
use Rattle.spaces.specs.declared.space.Space.{Space}
use Rattle.standard.specs.declared.records.RefusedRecord.{RefusedRecord}
use Rattle.sheet.specs.Changes.{with_standing}
use Rattle.sheet.specs.Resume.{refused, resumed}
use Rattle.sheet.specs.declared.resume.Resumed.{Resumed}
use Rattle.sheet.specs.declared.sheet.Sheet.{Sheet}
use Rattle.sheet.proofs.Laws.Changes.{placed}
use Rattle.sheet.proofs.sheet.Sheet.resume.Goals as goal

pub returns-then-not-tonnage_length_fits : goal.returns-then-not-tonnage_length_fits
unfolding resumed
returns-then-not-tonnage_length_fits c = rw (as_answered c.tonnage_length_fits.ensures c.if-not-tonnage_length_fits.true) c.refused.ensures

pub returns-then-refused-ne0 : goal.returns-then-refused-ne0
unfolding resumed
returns-then-refused-ne0 c =
    let is = c.first_refused-refused.ensures in
    let number = ap (λ (r : RefusedRecord). r.number) is in
    rw (as_answered c.tonnage_length_fits.ensures c.if-not-tonnage_length_fits.false, ne_eqb _ 0 (rw number at c.if-refused-ne0.true))
    (c.refused-then-refused-ne0.ensures ∙ ap (λ (r : RefusedRecord). refused r.number r.position) is)

-- a sheet of no refused record
abbrev told : Sheet → Resumed
told s = record { number = 0; position = 0; sheet = s }

pub returns : goal.returns
unfolding resumed
returns c =
    let xs = c.args.records.spaces.now in
    let blank = c.blank-sheet.result in
    let is = c.first_refused-refused.ensures in
    let number = ap (λ (r : RefusedRecord). r.number) is in
    rw (as_answered c.tonnage_length_fits.ensures c.if-not-tonnage_length_fits.false, eq-eqb _ 0 (sym number ∙ c.if-refused-ne0.false))
    (ap (λ (row : List Space). told (placed row (length xs) blank)) c.put_first.ensures
    ∙ sym (ap (λ (k : ℕ). told (placed (all_recorded xs ++ drop k blank.spaces) k blank)) (length-map xs recorded))
    ∙ ap (λ (s : Sheet). told (with_standing (all_recorded xs) s)) c.blank-sheet.ensures)
