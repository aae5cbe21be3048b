-- Demand 1: "Every call ends and stays inside what it was lent, for any numbers and any file. Nobody has to check first. A refusal gives
-- its number from the paper, changes neither sheet nor buffer, and is given exactly when the paper says."
-- That every call ends and stays inside what it was lent is what the check proves of each function; and no public function asks
-- anything of what it is given (NoSecondAnswer), so nobody has to check first. Here is what the check doesn't say. When a call is to be
-- refused, each of its numbers with the condition, is in specs/Refusals. Stands on Tests, Reached.
use Rattle.std.proofs.Common.{ℕ, ◌<◌, ◌≡◌, refl, sym, ap, ◌∙◌, Bool, true, false, cond, not, ◌||◌, List, [], ◌∷◌, ◌++◌, ◌↔◌, arith, eq-eqb, ne_eqb, eqb-true, le-ltb, eqb, ltb, lit<, length, drop}
use borrow.Author.Tests.{not-true, eqb-false}
use Rattle.measure.specs.declared.units.Hundredths.{Hundredths}
use Rattle.measure.specs.Kinds.{kind_of}
use Rattle.measure.specs.Ranges.{includes, tonnage_lengths}
use Rattle.measure.specs.Refusals.{first_of}
use Rattle.measure.specs.Offsets.{in_range, counted as rightly_counted, measured}
use Rattle.measure.specs.Ends.{ends_of}
use Rattle.measure.specs.Tanks.{tank_in_range, lay_out_number, laid_out}
use Rattle.measure.proofs.Laws.Refusals.{spliced}
use Rattle.standard.specs.Rules.{entry_tests}
use Rattle.standard.specs.Tanks.{tank_tests, tank_number}
use Rattle.standard.specs.Gross.{deductions_pass}
use Rattle.spaces_laws.specs.Gross.{DeductionsPass}
use Rattle.spaces_laws.proofs.Report.{deductions_pass_exactly}
use Rattle.spaces_laws.proofs.Tanks.{tank_never_7, tank_never_8, none_without_m}
use Rattle.spaces.specs.declared.space.Space.{Space}
use Rattle.spaces.proofs.Laws.Cases.{by_test}
use Rattle.sheet.specs.Sheet.{standing, usable, blank, vessel_of}
use Rattle.sheet.specs.Ends.{pointed_with_area, PointedWithArea}
use Rattle.sheet.specs.Calls.{space_of, out_of_range, misstated, lengths_short, ballast_unjustified, opened_with, entered, withdrawn, marked, undone, redone, counted, reported}
use Rattle.standard.specs.Records.{record_number, first_refused}
use Rattle.sheet.specs.Resume.{resumed}
use Rattle.sheet.specs.declared.sheet.Sheet.{Sheet}
use Rattle.sheet.specs.Tanks.{tank_in, sections_wrong, tank_entered}
use Rattle.sheet.specs.declared.calls.Entry.{Entry}
use Rattle.sheet.specs.declared.tanks.Tank.{Tank}
use Rattle.sheet_laws.proofs.Accepted.{tank_accepted, a_room}
use Rattle.sheet_laws.proofs.Runs.{refused_changes_nothing}
use Rattle.sheet_laws.proofs.Ends.{pointed_with_area_lem, nothing_else}
use Rattle.dayfile.specs.Forms.{is_form, form_of}
use Rattle.dayfile.specs.Writing.{loses_number, lost_or_no_room, write_number, written, written_into}
use Rattle.dayfile.specs.Record.{spaces_of}
use Rattle.dayfile.specs.declared.reading.Reading.{Reading}
use Rattle.dayfile.specs.Reading.{last_numbers, last_trailer, last_form, start_of, last_records, last_vessel, no_sheet, fault_in, sheet_in, read_number, refused_reading, read_of}
use Rattle.dayfile.specs.Moving.{move_number, moved, moved_into}
use Rattle.dayfile.proofs.Laws.Trailer.{within_trailer}
use Rattle.dayfile.proofs.Laws.Reading.{framed, count_fits, read_17}
use Rattle.dayfile_laws.specs.Faults.{FaultExactly}
use Rattle.dayfile_laws.specs.Writing.{LosesNumber}
use Rattle.dayfile_laws.proofs.Resumed.{is_usable}
use Rattle.dayfile_laws.proofs.Faults.{fault_exactly}
use Rattle.dayfile_laws.proofs.Lost.{loses_exactly}
use Rattle.dayfile_laws.proofs.ReadWritten.{length_spaces}
use Rattle.demands.specs.Reached.{DayCall, call, write, handed_back, number_of, Begun, Reached}
use Rattle.demands.specs.Tests.{FirstGiven, Applies, LowestGiven}
use Rattle.demands.specs.Refusals.{open_tests, enter_tests, enter_tank_tests, lay_out_tests, withdrawal_tests, marking_tests, undo_tests, redo_tests, report_tests, write_tests, figures_wrong, read_tests, move_tests, record_tests, Given17, NothingRead, NothingMoved}
use Rattle.demands.proofs.Reached.{begun_without_m, reached_resumable}
use Rattle.demands.proofs.Tests.{first_given, refusal_applies, lowest_given, never_given, applies_last, either}

-- ---- "is given exactly when the paper says": for any sheet and any numbers

pub open_refused : (L : Hundredths) (vessel : ℕ) → LowestGiven (open_tests L) (opened_with L vessel).number
unfolding opened_with
open_refused L vessel =
    let same : (opened_with L vessel).number ≡ first_of (open_tests L) = by_test (includes tonnage_lengths L.0) (λ t. rw t) (λ f. rw f) in
    rw same (lowest_given (open_tests L) (omega arith))

pub enter_refused : (s : Sheet) (e : Entry) (heights breadths : List ℕ)
    → LowestGiven (enter_tests s e heights breadths) (entered s e heights breadths).number
unfolding entered measured
enter_refused s e heights breadths =
    let k = kind_of e.kind in
    let t = s.length in
    let l = e.length in
    let out = not (in_range k t l heights breadths) in
    let wrong = not (rightly_counted k t l heights breadths) in
    let rest = entry_tests s.length (standing s) (space_of s.length e heights breadths) ++ ((pointed_with_area e (ends_of heights breadths), 19) ∷ []) in
    let same : (entered s e heights breadths).number ≡ first_of (enter_tests s e heights breadths) =
    ap (λ (n : ℕ). cond (not (usable s)) 1 n)
    (ap (λ (n : ℕ). cond (misstated e) 2 n) (spliced ((out, 2) ∷ (wrong, 3) ∷ []) rest (omega arith))
    ∙ either (misstated e) out 2 ((wrong, 3) ∷ rest)) in
    rw same (lowest_given (enter_tests s e heights breadths) (omega arith))

-- "19 where a pointed end has area, after all the others": exactly where none of the others applies
pub pointed_refused : (s : Sheet) (e : Entry) (heights breadths : List ℕ)
    → ((entered s e heights breadths).number ≡ 19)
    ↔ (PointedWithArea e (ends_of heights breadths) × ((k : ℕ) → k < 19 → Applies (enter_tests s e heights breadths) k → ⊥))
pointed_refused s e heights breadths =
    let k = kind_of e.kind in
    let x = space_of s.length e heights breadths in
    let others : List (Bool × ℕ) =
    (not (usable s), 1)
    ∷ (misstated e || not (in_range k s.length e.length heights breadths), 2)
    ∷ (not (rightly_counted k s.length e.length heights breadths), 3)
    ∷ entry_tests s.length (standing s) x in
    let given = (enter_refused s e heights breadths).refused_exactly 19 (omega arith) in
    let last = applies_last others (pointed_with_area e (ends_of heights breadths)) 19 refl in
    let pointed = pointed_with_area_lem e (ends_of heights breadths) in (
      λ z. let (a, none) = given.0 z in (pointed.0 (last.0 a), none),
      λ h. given.1 (last.1 (pointed.1 h.0), h.1),
    )

-- it hangs on nothing but the ends said of a U and the areas there: with these the same, and none of the others, any entry on any sheet
-- is refused with it
pub same_19 : (s t : Sheet) (e f : Entry) (hs bs hs' bs' : List ℕ) → e.kind ≡ f.kind → e.fore_end ≡ f.fore_end → e.aft_end ≡ f.aft_end
    → ends_of hs bs ≡ ends_of hs' bs' → ((k : ℕ) → k < 19 → Applies (enter_tests t f hs' bs') k → ⊥)
    → (entered s e hs bs).number ≡ 19 → (entered t f hs' bs').number ≡ 19
same_19 s t e f hs bs hs' bs' kinds fores afts areas none z =
    let (there, _) = (pointed_refused s e hs bs).0 z in
    let pointed = (pointed_with_area_lem e (ends_of hs bs)).1 there in
    let same = ap (pointed_with_area f) (sym areas) ∙ sym (nothing_else e f (ends_of hs bs) kinds fores afts) ∙ pointed in
    (pointed_refused t f hs' bs').1 ((pointed_with_area_lem f (ends_of hs' bs')).0 same, none)

pub enter_tank_refused : (s : Sheet) (k : Tank) (depths breadths : List ℕ)
    → LowestGiven (enter_tank_tests s k depths breadths) (tank_entered s k depths breadths).number
unfolding tank_entered
enter_tank_refused s k depths breadths =
    let out = not (tank_in_range k.length k.fore depths breadths) in
    let wrong = sections_wrong s.length (standing s) k depths breadths in
    let rest = tank_tests s.length (standing s) (tank_in s.length (standing s) k depths breadths) k.fore in
    let same : (tank_entered s k depths breadths).number ≡ first_of (enter_tank_tests s k depths breadths) =
    ap (λ (n : ℕ). cond (not (usable s)) 1 n) (either (out_of_range k.standing k.deck) out 2 ((wrong, 3) ∷ rest)) in
    rw same (lowest_given (enter_tank_tests s k depths breadths) (omega arith))

-- "7 and 8 never come from a tank, since a U is at level 1 and plain": on no sheet that calls can reach
pub tank_never_7_or_8 : {s : Sheet} → Reached s → (k : Tank) (depths breadths : List ℕ)
    → ((tank_entered s k depths breadths).number ≡ 7 → ⊥) × ((tank_entered s k depths breadths).number ≡ 8 → ⊥)
unfolding tank_entered tank_number
tank_never_7_or_8 {s} r k depths breadths =
    let v = (reached_resumable r).resumable.valid in
    let x = tank_in s.length (standing s) k depths breadths in
    let room = a_room s.length (standing s) k depths breadths in
    let low : (n : ℕ) → 3 < n → (tank_entered s k depths breadths).number ≡ n → tank_number s.length (standing s) x k.fore ≡ n =
    after_3 (not (usable s)) (out_of_range k.standing k.deck) (not (tank_in_range k.length k.fore depths breadths)) (sections_wrong s.length (standing s) k depths breadths)
    (tank_tests s.length (standing s) x k.fore) in
    (λ e. tank_never_7 v x k.fore room (low 7 (omega arith) e), λ e. tank_never_8 v x k.fore room (low 8 (omega arith) e))
  where
    -- a number over 3 is that of the tests behind those of 1 to 3
    after_3 : (a b c d : Bool) (tests : List (Bool × ℕ)) (n : ℕ) → 3 < n → first_of ((a, 1) ∷ (b, 2) ∷ (c, 2) ∷ (d, 3) ∷ tests) ≡ n → first_of tests ≡ n
    after_3 true b c d tests n over e = absurd (omega arith)
    after_3 false true c d tests n over e = absurd (omega arith)
    after_3 false false true d tests n over e = absurd (omega arith)
    after_3 false false false true tests n over e = absurd (omega arith)
    after_3 false false false false tests n over e = e

-- "tanks have no ends to say"
pub tank_never_19 : (s : Sheet) (k : Tank) (depths breadths : List ℕ) → (tank_entered s k depths breadths).number ≡ 19 → ⊥
tank_never_19 s k depths breadths z =
    never_given refl (((enter_tank_refused s k depths breadths).refused_exactly 19 (omega arith)).0 z).0

-- "a U that came from a file takes no tank until it is entered anew": none is accepted on a sheet just read, nor on one just opened
pub none_at_first : {L : Hundredths} {start : List Space} {first : Sheet} → Begun L start first → (k : Tank) (depths breadths : List ℕ)
    → (tank_entered first k depths breadths).number ≡ 0 → ⊥
none_at_first {first = first} begun k depths breadths z =
    let x = tank_in first.length (standing first) k depths breadths in
    let number = (tank_accepted first k depths breadths z).number in
    none_without_m first.length (standing first) x k.fore (a_room first.length (standing first) k depths breadths)
    (ap (λ (xs : List Space). tank_number first.length xs x k.fore) (begun_without_m begun) ∙ number)

-- "where to measure"
pub lay_out_refused : (t u l f : Hundredths) → LowestGiven (lay_out_tests t u l f) (laid_out t u l f).number
unfolding laid_out lay_out_number
lay_out_refused t u l f = lowest_given (lay_out_tests t u l f) (omega arith)

pub withdraw_refused : (s : Sheet) (id : ℕ) → LowestGiven (withdrawal_tests s id) (withdrawn s id).number
unfolding withdrawn
withdraw_refused s id = lowest_given (withdrawal_tests s id) (omega arith)

pub mark_refused : (s : Sheet) (id standing' : ℕ) → LowestGiven (marking_tests s id standing') (marked s id standing').number
unfolding marked
mark_refused s id standing' = lowest_given (marking_tests s id standing') (omega arith)

pub undo_refused : (s : Sheet) → LowestGiven (undo_tests s) (undone s).number
unfolding undone
undo_refused s = lowest_given (undo_tests s) (omega arith)

pub redo_refused : (s : Sheet) → LowestGiven (redo_tests s) (redone s).number
unfolding redone
redo_refused s = lowest_given (redo_tests s) (omega arith)

pub report_refused : (s : Sheet) (justified : ℕ) → LowestGiven (report_tests s justified) (reported s justified).number
unfolding reported
report_refused s justified = lowest_given (report_tests s justified) (omega arith)

-- in that order, since 20 comes "in a write just before 15"
pub write_refused : (s : Sheet) (justified form size at : ℕ) → FirstGiven (write_tests s justified form size at) (written s justified form size at).number
unfolding written write_number
write_refused s justified form size at = first_given (write_tests s justified form size at) (omega arith)

-- `resume`, by which reading makes its sheet, judges each record after those before it
pub record_refused : (L : Hundredths) (before : List Space) (x : Space) → LowestGiven (record_tests L before x) (record_number L before x)
unfolding record_number
record_refused L before x = lowest_given (record_tests L before x) (omega arith)

-- a report of the last sheet of a file is never refused with 1 or 2: 16 comes before
module _ (file : List ℕ) (ends_in_sheet : no_sheet file ≡ false) where
  read_open : usable (sheet_in file) ≡ true
  unfolding sheet_in
  read_open =
      let t = last_trailer file in
      is_usable t.tonnage_length (last_vessel file) (spaces_of (last_records file))
      (omega (arith, count_fits file ends_in_sheet, length_spaces (last_form file) t.count (drop (start_of file) file)))

  mark_in_range : ltb 1 (last_trailer file).justified ≡ false
  mark_in_range = le-ltb 1 (last_trailer file).justified (omega (arith, within_trailer (last_numbers file) 2 (lit< tt) (framed file ends_in_sheet).right))

read_number_lem : (file : List ℕ) → read_number file ≡ first_of (read_tests file)
unfolding read_number reported
read_number_lem file =
    let s = sheet_in file in
    let t = last_trailer file in
    by_test (no_sheet file)
    (λ e. rw e)
    (λ e.
    rw e
    (ap (λ (n : ℕ). cond (not (eqb (fault_in file) 0)) 17 n)
    (spliced (report_tests s t.justified) ((figures_wrong file, 18) ∷ []) (omega arith) ∙ rw (read_open file e, mark_in_range file e))))

answered_number : (file : List ℕ) → (read_of file).number ≡ read_number file
unfolding read_of refused_reading
answered_number file = by_test (eqb (read_number file) 0) (λ t. rw t (sym (eqb-true _ _ t))) (λ f. rw f)

pub read_refused : (file : List ℕ) → FirstGiven (read_tests file) (read_of file).number
read_refused file = rw (answered_number file ∙ read_number_lem file) (first_given (read_tests file) (omega arith))

-- "Nothing is recorded of an end, so reading gives no 19": neither of the file nor of a record
pub read_never_19 : (file : List ℕ) → (read_of file).number ≡ 19 → ⊥
read_never_19 file z =
    never_given refl (refusal_applies (((read_refused file).refused_exactly 19 (omega arith)).0 z))

pub record_never_19 : (L : Hundredths) (before : List Space) (x : Space) → record_number L before x ≡ 19 → ⊥
record_never_19 L before x z =
    never_given refl (((record_refused L before x).refused_exactly 19 (omega arith)).0 z).0

with_17 : (a b c d e f : Bool) → first_of ((a, 16) ∷ (b, 17) ∷ (c, 13) ∷ (d, 14) ∷ (e, 21) ∷ (f, 18) ∷ []) ≡ 17 → (a ≡ false) × (b ≡ true)
with_17 true b c d e f z = absurd (omega arith)
with_17 false true c d e f z = (refl, refl)
with_17 false false true d e f z = absurd (omega arith)
with_17 false false false true e f z = absurd (omega arith)
with_17 false false false false true f z = absurd (omega arith)
with_17 false false false false false true z = absurd (omega arith)
with_17 false false false false false false z = absurd (omega arith)

after_16 : (file : List ℕ) → (read_of file).number ≡ 17 → (no_sheet file ≡ false) × (not (eqb (fault_in file) 0) ≡ true)
after_16 file z =
    let s = sheet_in file in
    let fault = not (eqb (fault_in file) 0) in
    with_17 (no_sheet file) fault (lengths_short s) (ballast_unjustified s (last_trailer file).justified) (deductions_pass (standing s)) (figures_wrong file)
    (sym (answered_number file ∙ read_number_lem file) ∙ z)

faults_exactly : (file : List ℕ) → FaultExactly (last_form file) (last_trailer file).tonnage_length (last_records file) (fault_in file)
unfolding fault_in
faults_exactly file = fault_exactly (last_form file) (last_trailer file).tonnage_length (last_records file)

pub read_17_exactly : (file : List ℕ) → no_sheet file ≡ false → Given17 file
unfolding refused_reading
read_17_exactly file ends_in_sheet =
    let exactly = faults_exactly file in
    by_test (eqb (fault_in file) 0)
    (λ t.
    let z = eqb-true _ 0 t in
    let never : (read_of file).number ≡ 17 → ⊥ = λ e. eqb-false _ 0 (not-true _ (after_16 file e).1) z in
    record {
      with_position = λ p. (
        λ given. absurd (never given.0),
        λ a. absurd (omega (arith, z, a.at_least_1, (exactly.first_exactly p a.at_least_1).1 a)),
      );
      not_given = (λ e. exactly.none_exactly.0 z, λ none. never);
    })
    (λ f.
    let some = eqb-false _ 0 f in
    let reading = read_17 file ends_in_sheet some in
    let number : (read_of file).number ≡ 17 = sym (ap (λ (r : Reading). r.number) reading) in
    let position : fault_in file ≡ (read_of file).position = ap (λ (r : Reading). r.position) reading in
    record {
      with_position = λ p. (
        λ given. (exactly.first_exactly p (omega (arith, some))).0 (position ∙ given.1),
        λ a. (number, sym position ∙ (exactly.first_exactly p a.at_least_1).1 a),
      );
      not_given = (λ e. absurd (e number), λ none. absurd (some (exactly.none_exactly.1 none)));
    })

-- a move: 2, then those of reading, then 20, then 15; 1 is never among them, since it takes no sheet
pub move_refused : (file : List ℕ) (form size at : ℕ) → FirstGiven (move_tests file form size at) (moved file form size at).number
unfolding moved move_number
move_refused file form size at =
    let end = lost_or_no_room form (read_of file).sheet size at in
    let read = answered_number file ∙ read_number_lem file in
    let same : (moved file form size at).number ≡ first_of (move_tests file form size at) =
    ap (λ (n : ℕ). cond (not (is_form form)) 2 n)
    (ap (λ (n : ℕ). first_of ((not (eqb n 0), n) ∷ end)) read ∙ spliced (read_tests file) end (omega arith)) in
    rw same (first_given (move_tests file form size at) (omega arith))

pub move_never_1 : (file : List ℕ) (form size at : ℕ) → (moved file form size at).number ≡ 1 → ⊥
move_never_1 file form size at z =
    never_given refl (refusal_applies (((move_refused file form size at).refused_exactly 1 (omega arith)).0 z))

-- 20 "where a move or write in form 1 would lose a number": the vessel number, or the deck of a standing space, isn't 0
pub lost_exactly : (form : ℕ) (s : Sheet) → is_form form ≡ true → (loses_number (form_of form) s ≡ true) ↔ LosesNumber form s
lost_exactly = loses_exactly

-- 21 "when deductions pass gross": D and the deduction for machinery together, as 69.121(e)(2) gives it
pub pass_exactly : (s : Sheet) → (deductions_pass (standing s) ≡ true) ↔ DeductionsPass (standing s)
pass_exactly s = deductions_pass_exactly (standing s)

-- ---- "changes neither sheet nor buffer"

-- "A refused change, undo or redo hands back the sheet as it came", and so does every other refused call on a sheet
pub refused_hands_back : (c : DayCall) (s : Sheet) → (number_of c s ≡ 0 → ⊥) → handed_back c s ≡ s
unfolding written
refused_hands_back (call c) s refused = refused_changes_nothing c s refused
refused_hands_back (write justified form size at) s refused = refl

-- "A refused report gives 0 and 0"
pub refused_report_gives : (s : Sheet) (justified : ℕ) → ((reported s justified).number ≡ 0 → ⊥)
    → ((reported s justified).gross ≡ 0) × ((reported s justified).net ≡ 0)
unfolding reported
refused_report_gives s justified refused = let e = ne_eqb _ 0 refused in (rw e, rw e)

-- "a refused write 0 bytes and an untouched buffer"
pub refused_write_gives : (s : Sheet) (justified form at : ℕ) (buffer : List ℕ) → ((written s justified form (length buffer) at).number ≡ 0 → ⊥)
    → ((written s justified form (length buffer) at).bytes ≡ 0) × (written_into s justified form at buffer ≡ buffer)
unfolding written written_into
refused_write_gives s justified form at buffer refused = let e = ne_eqb _ 0 refused in (rw e, rw e)

-- and so does a refused move
pub refused_move_gives : (file : List ℕ) (form at : ℕ) (buffer : List ℕ) → ((moved file form (length buffer) at).number ≡ 0 → ⊥)
    → NothingMoved file form at buffer
unfolding moved moved_into
refused_move_gives file form at buffer refused =
    let e = ne_eqb _ 0 refused in
    record { no_bytes = rw e; untouched = rw e; position_with_17 = λ z. rw (eq-eqb _ 17 z); position_0 = λ other. rw (ne_eqb _ 17 other) }

-- "A refused open .. hands back a sheet not open"
pub refused_open_gives : (L : Hundredths) (vessel : ℕ) → ((opened_with L vessel).number ≡ 0 → ⊥) → usable (opened_with L vessel).sheet ≡ false
unfolding opened_with usable blank
refused_open_gives L vessel refused = by_test (includes tonnage_lengths L.0) (λ t. absurd (refused (rw t))) (λ f. rw f)

-- and so does a refused `resume`
pub refused_resume_gives : (L : Hundredths) (vessel : ℕ) (records : List Space) → ((resumed L vessel records).number ≡ 0 → ⊥)
    → usable (resumed L vessel records).sheet ≡ false
unfolding resumed usable blank
refused_resume_gives L vessel records refused =
    by_test (includes tonnage_lengths L.0)
    (λ t. by_test (eqb (first_refused L [] records).number 0) (λ u. absurd (refused (rw (t, u)))) (λ f. rw (t, f)))
    (λ f. rw f)

-- where no tank may be measured there are no parts and no sections
pub refused_lay_out_gives : (t u l f : Hundredths) → ((laid_out t u l f).number ≡ 0 → ⊥) → ((laid_out t u l f).parts ≡ 0) × ((laid_out t u l f).sections ≡ 0)
unfolding laid_out
refused_lay_out_gives t u l f refused = let e = ne_eqb _ 0 refused in (rw e, rw e)

-- "Both counts can be asked for and are 0 on a sheet not open."
pub counts_when_not_open : (s : Sheet) → usable s ≡ false → ((counted s).undoable ≡ 0) × ((counted s).redoable ≡ 0)
unfolding counted
counts_when_not_open s closed = (rw closed, rw closed)

-- "A sheet not open has vessel number 0."
pub vessel_when_not_open : (s : Sheet) → usable s ≡ false → vessel_of s ≡ 0
unfolding vessel_of
vessel_when_not_open s closed = rw closed

pub refused_read_gives : (file : List ℕ) → ((read_of file).number ≡ 0 → ⊥) → NothingRead file
unfolding read_of refused_reading usable blank
refused_read_gives file refused =
    by_test (eqb (read_number file) 0)
    (λ t. absurd (refused (rw t)))
    (λ f.
    record {
      not_open = rw f;
      mark_0 = rw f;
      start_0 = rw f;
      form_0 = rw f;
      position_with_17 = λ e. ((read_17_exactly file (after_16 file e).0).with_position (read_of file).position).0 (e, refl);
      position_0 = λ e. rw (f, ne_eqb (read_number file) 17 (λ q. e (answered_number file ∙ q)));
    })
