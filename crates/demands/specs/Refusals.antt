-- When each call is to be refused, and what a refused read and a refused move give.
use Rattle.std.specs.Prelude.{ℕ, ◌≡◌, Bool, false, not, ◌||◌, List, [], ◌∷◌, ◌++◌, ◌↔◌, eqb, ltb, length}
use Rattle.measure.specs.declared.units.Hundredths.{Hundredths}
use Rattle.measure.specs.Kinds.{kind_of}
use Rattle.measure.specs.Ranges.{includes, tonnage_lengths}
use Rattle.measure.specs.Offsets.{in_range, counted as rightly_counted}
use Rattle.measure.specs.Ends.{ends_of}
use Rattle.measure.specs.Tanks.{tank_in_range, passes_end, lengths_fit}
use Rattle.standard.specs.Standings.{greatest_standing}
use Rattle.standard.specs.Rules.{entry_tests, withdraw_tests, mark_tests}
use Rattle.standard.specs.Tanks.{tank_tests}
use Rattle.standard.specs.Gross.{gross, net, deductions_pass}
use Rattle.standard.specs.Records.{misrecorded}
use Rattle.spaces.specs.declared.space.Space.{Space}
use Rattle.sheet.specs.Sheet.{standing, usable}
use Rattle.sheet.specs.declared.sheet.Sheet.{Sheet}
use Rattle.sheet.specs.declared.calls.Entry.{Entry}
use Rattle.sheet.specs.Ends.{pointed_with_area}
use Rattle.sheet.specs.Calls.{space_of, out_of_range, misstated, lengths_short, ballast_unjustified}
use Rattle.sheet.specs.Tanks.{tank_in, sections_wrong}
use Rattle.sheet.specs.declared.tanks.Tank.{Tank}
use Rattle.dayfile.specs.Forms.{is_form}
use Rattle.dayfile.specs.Writing.{lost_or_no_room}
use Rattle.dayfile.specs.Reading.{last_trailer, last_form, last_records, no_sheet, fault_in, sheet_in, read_of}
use Rattle.dayfile.specs.Moving.{moved, moved_into}
use Rattle.dayfile_laws.specs.Faults.{FirstFault, NoFault}

-- ---- the rows of "Numbers of refusal" that each call can be refused with, and 19, 20, 21 and 29 of document 02. The conditions of entry_tests
-- (4 to 10), withdraw_tests (5, 11) and mark_tests (5, 6, 8) are defined in standard/specs/Rules, those of tank_tests (4 to 10 and 29) in
-- standard/specs/Tanks, those of a U's ends (2, 19) in sheet/specs/Ends, those of 13 and 14 in sheet/specs/Calls, that of 21 in
-- standard/specs/Gross, those of 16 and 17 in dayfile/specs/Reading, those of 20 and 15 in dayfile/specs/Writing.

-- 2: the tonnage length is outside its range
abbrev pub open_tests : Hundredths → List (Bool × ℕ)
open_tests L = (not (includes tonnage_lengths L.0), 2) ∷ []

-- 1; 2: its standing, its deck, an end of a U, its kind or a measure is outside its range; 3: its offsets are not the number the rules ask;
-- 4 to 10; 19: "where a pointed end has area, after all the others"
abbrev pub enter_tests : Sheet → Entry → List ℕ → List ℕ → List (Bool × ℕ)
enter_tests s e heights breadths =
    let k = kind_of e.kind in
    let t = s.length in
    let l = e.length in
    (not (usable s), 1)
    ∷ (misstated e || not (in_range k t l heights breadths), 2)
    ∷ (not (rightly_counted k t l heights breadths), 3)
    ∷ entry_tests s.length (standing s) (space_of s.length e heights breadths)
    ++ ((pointed_with_area e (ends_of heights breadths), 19) ∷ [])

-- 1; 2: its standing, its deck, its length, its fore end or a measure is outside its range; 3: "a section or breadth is missing or extra";
-- 4 to 10; 29
abbrev pub enter_tank_tests : Sheet → Tank → List ℕ → List ℕ → List (Bool × ℕ)
enter_tank_tests s k depths breadths =
    let L = s.length in
    let xs = standing s in
    (not (usable s), 1)
    ∷ (out_of_range k.standing k.deck || not (tank_in_range k.length k.fore depths breadths), 2)
    ∷ (sections_wrong L xs k depths breadths, 3)
    ∷ tank_tests L xs (tank_in L xs k depths breadths) k.fore

-- where a tank is measured: "refused with 2 (a length outside its range, fore over 150,000) or 9 (passes an end)"
abbrev pub lay_out_tests : Hundredths → Hundredths → Hundredths → Hundredths → List (Bool × ℕ)
lay_out_tests t u l f = (not (lengths_fit t u l f), 2) ∷ (passes_end u l f, 9) ∷ []

-- 1, 5, 11
abbrev pub withdrawal_tests : Sheet → ℕ → List (Bool × ℕ)
withdrawal_tests s id = (not (usable s), 1) ∷ withdraw_tests (standing s) id

-- 1; 2: the standing is outside its range; 5, 6, 8
abbrev pub marking_tests : Sheet → ℕ → ℕ → List (Bool × ℕ)
marking_tests s id standing' = (not (usable s), 1) ∷ (ltb greatest_standing standing', 2) ∷ mark_tests (standing s) id standing'

-- 1; 12: nothing undoable, or nothing redoable
abbrev pub undo_tests : Sheet → List (Bool × ℕ)
undo_tests s = (not (usable s), 1) ∷ (eqb s.undoable 0, 12) ∷ []

abbrev pub redo_tests : Sheet → List (Bool × ℕ)
redo_tests s = (not (usable s), 1) ∷ (eqb s.redoable 0, 12) ∷ []

-- 1; 2: the justified mark is outside its range; 13, 14; 21 "when deductions pass gross"
abbrev pub report_tests : Sheet → ℕ → List (Bool × ℕ)
report_tests s justified =
    (not (usable s), 1)
    ∷ (ltb 1 justified, 2)
    ∷ (lengths_short s, 13)
    ∷ (ballast_unjustified s justified, 14)
    ∷ (deductions_pass (standing s), 21)
    ∷ []

-- 1; 2: the justified mark is outside its range, or "a form that is neither"; 13, 14; 20 "in a write just before 15"; 21 "after 15"
abbrev pub write_tests : Sheet → ℕ → ℕ → ℕ → ℕ → List (Bool × ℕ)
write_tests s justified form size at =
    (not (usable s), 1)
    ∷ (ltb 1 justified || not (is_form form), 2)
    ∷ (lengths_short s, 13)
    ∷ (ballast_unjustified s justified, 14)
    ∷ lost_or_no_room form s size at
    ++ ((deductions_pass (standing s), 21) ∷ [])

-- 18: "gross or net isn't what the records give"
abbrev pub figures_wrong : List ℕ → Bool
figures_wrong file =
    let xs = standing (sheet_in file) in
    not (eqb (gross xs) (last_trailer file).gross) || not (eqb (net xs) (last_trailer file).net)

-- "except in reading: there 16, 17, 13, 14, 18 in that order"; 21 "in reading .. stands after 14"
abbrev pub read_tests : List ℕ → List (Bool × ℕ)
read_tests file =
    let s = sheet_in file in
    let t = last_trailer file in
    (no_sheet file, 16)
    ∷ (not (eqb (fault_in file) 0), 17)
    ∷ (lengths_short s, 13)
    ∷ (ballast_unjustified s t.justified, 14)
    ∷ (deductions_pass (standing s), 21)
    ∷ (figures_wrong file, 18)
    ∷ []

-- "a move gives 2, then those of reading, then 20, then 15"
abbrev pub move_tests : List ℕ → ℕ → ℕ → ℕ → List (Bool × ℕ)
move_tests file form size at = (not (is_form form), 2) ∷ read_tests file ++ lost_or_no_room form (read_of file).sheet size at

-- "It checks records in file order as entries with the recorded tonnage and length": 2 of a record's own numbers, then 4 to 10
abbrev pub record_tests : Hundredths → List Space → Space → List (Bool × ℕ)
record_tests L before x = (misrecorded x, 2) ∷ entry_tests L before x

-- ---- reading

-- 17 as a statement on the records (16 comes before it): given with a position exactly when the record there is faulty after those before
-- it and none of these is, and not given exactly when none is
pub record Given17 (file : List ℕ) : Type 0 where
  pub with_position : (position : ℕ)
      → (((read_of file).number ≡ 17) × ((read_of file).position ≡ position)) ↔ FirstFault (last_form file) (last_trailer file).tonnage_length (last_records file) position
  pub not_given : ((read_of file).number ≡ 17 → ⊥) ↔ NoFault (last_form file) (last_trailer file).tonnage_length (last_records file)

-- "A refused .. read hands back a sheet not open, mark 0, start 0", and form 0. 17 "with the position, from 1, of the first such record",
-- and "The position is 0 for every number but 17."
pub record NothingRead (file : List ℕ) : Type 0 where
  pub not_open : usable (read_of file).sheet ≡ false
  pub mark_0 : (read_of file).justified ≡ 0
  pub start_0 : (read_of file).start ≡ 0
  pub form_0 : (read_of file).form ≡ 0
  pub position_with_17 : (read_of file).number ≡ 17 → FirstFault (last_form file) (last_trailer file).tonnage_length (last_records file) (read_of file).position
  pub position_0 : ((read_of file).number ≡ 17 → ⊥) → (read_of file).position ≡ 0

-- ---- moving

-- "answering as a write does, with 17's position": a refused move writes nothing, and the position is that of reading
pub record NothingMoved (file : List ℕ) (form at : ℕ) (buffer : List ℕ) : Type 0 where
  pub no_bytes : (moved file form (length buffer) at).bytes ≡ 0
  pub untouched : moved_into file form at buffer ≡ buffer
  pub position_with_17 : (moved file form (length buffer) at).number ≡ 17 → (moved file form (length buffer) at).position ≡ (read_of file).position
  pub position_0 : ((moved file form (length buffer) at).number ≡ 17 → ⊥) → (moved file form (length buffer) at).position ≡ 0
