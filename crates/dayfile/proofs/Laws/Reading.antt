-- What reading answers, test by test.
use Rattle.std.proofs.Common.{ℕ, ◌+◌, ◌-◌, ◌<◌, ◌≤◌, ◌≡◌, refl, sym, ap, ◌∙◌, Bool, true, false, cond, not, ◌||◌, List, [], ◌∷◌, ◌++◌, arith, lt-ltb, le-ltb, ltb-false, eq-eqb, ne_eqb, eqb-true, eqb, ltb, lit<, length, drop, get_or}
use borrow.Author.Tests.{not-false, eqb-false}
use Rattle.std.specs.Prelude.{Result, Ok, Err}
use Rattle.measure.specs.declared.units.Hundredths.{Hundredths}
use Rattle.measure.specs.Kinds.{kind_of}
use Rattle.measure.specs.Ranges.{includes, tonnage_lengths}
use Rattle.measure.specs.Refusals.{first_of}
use Rattle.spaces.specs.Space.{empty_space}
use Rattle.standard.specs.Gross.{gross, net}
use Rattle.spaces.specs.Space.{all_recorded}
use Rattle.spaces.specs.declared.space.Space.{Space}
use Rattle.spaces.proofs.Laws.Cases.{by_test, or_fails}
use Rattle.sheet.specs.Sheet.{standing, blank}
use Rattle.sheet.specs.Changes.{with_standing}
use Rattle.sheet.specs.Calls.{reported}
use Rattle.standard.specs.Records.{record_number, first_refused}
use Rattle.sheet.specs.Resume.{resumed}
use Rattle.sheet.specs.declared.sheet.Sheet.{Sheet}
use Rattle.standard.specs.declared.records.RefusedRecord.{RefusedRecord}
use Rattle.sheet.specs.declared.resume.Resumed.{Resumed}
use Rattle.sheet.proofs.Laws.Calls.{passed, after_call}
use Rattle.dayfile.specs.Fields.{fitting}
use Rattle.dayfile.specs.Record.{record_fields, records_in, space_of, spaces_of}
use Rattle.dayfile.specs.Trailer.{trailer_size, sheet_size, trailer_right}
use Rattle.dayfile.specs.Reading.{last_numbers, last_trailer, last_form, start_of, last_records, last_vessel, no_sheet, faulty, first_faulty, fault_in, sheet_in, trailer_tests, read_number, refused_reading, accepted_reading, read_of, ReadingAccepted}
use Rattle.dayfile.specs.Handed.{refusal, read_as, each_read_as, read_by, judged_reading, last_read, accepted_from, reading_from}
use Rattle.dayfile.specs.declared.forms.Form.{Form}
use Rattle.dayfile.specs.declared.trailer.Trailer.{Trailer}
use Rattle.dayfile.specs.declared.refusals.Refusal.{Refusal}
use Rattle.dayfile.specs.declared.reading.Reading.{Reading}
use Rattle.dayfile.specs.declared.reading.LastSheet.{LastSheet}
use Rattle.dayfile.proofs.Laws.Trailer.{distance_is, within_trailer, tonnage_length_fits}

-- ---- 16

module _ (file : List ℕ) where
  pub too_short : length file < trailer_size → no_sheet file ≡ true
  unfolding no_sheet
  too_short h = rw (lt-ltb (length file) trailer_size h)

  pub wrong_trailer : trailer_size ≤ length file → trailer_right (last_numbers file) ≡ false → no_sheet file ≡ true
  unfolding no_sheet
  wrong_trailer h e = rw (le-ltb (length file) trailer_size h, e)

  pub by_distance : trailer_size ≤ length file → trailer_right (last_numbers file) ≡ true
      → no_sheet file ≡ ltb (length file) (get_or (last_numbers file) 0 0)
  unfolding no_sheet
  by_distance h e = rw (le-ltb (length file) trailer_size h, e)

  pub too_far : length file < get_or (last_numbers file) 0 0 → no_sheet file ≡ true
  unfolding no_sheet
  too_far h = rw (lt-ltb _ _ h) (by_test (ltb (length file) trailer_size || not (trailer_right (last_numbers file))) (λ t. rw t) (λ f. rw f))

  pub by_trailer : trailer_size ≤ length file → get_or (last_numbers file) 0 0 ≤ length file → trailer_right (last_numbers file) ≡ not (no_sheet file)
  unfolding no_sheet
  by_trailer h k = rw (le-ltb (length file) trailer_size h, le-ltb _ _ k) (by_test (trailer_right (last_numbers file)) (λ t. rw t) (λ f. rw f))

-- a file that ends in a sheet
pub record Framed (file : List ℕ) : Type 0 where
  pub long : trailer_size ≤ length file
  pub right : trailer_right (last_numbers file) ≡ true
  pub reaches : sheet_size (last_form file) (last_trailer file).count ≤ length file

pub framed : (file : List ℕ) → no_sheet file ≡ false → Framed file
unfolding no_sheet
framed file e =
    let short = ltb (length file) trailer_size in
    let wrong = not (trailer_right (last_numbers file)) in
    let o = or_fails (short || wrong) _ e in
    let p = or_fails short wrong o.0 in
    let right = not-false (trailer_right (last_numbers file)) p.1 in
    let far : get_or (last_numbers file) 0 0 ≤ length file = ltb-false _ _ o.1 in
    record {
      long = ltb-false _ _ p.0;
      right = right;
      reaches = omega (arith, far, distance_is (last_numbers file) right);
    }

-- ---- 17

-- no entry takes an empty record
empty_refused : (L : Hundredths) (before : List Space) → record_number L before empty_space ≡ 2
unfolding record_number includes kind_of
empty_refused L before = refl

-- the sheet's own judging of the records as they are handed to it finds the first that is faulty
pub record Judged (f : Form) (L : Hundredths) (before : List Space) (rest : List (List ℕ)) : Type 0 where
  pub position_is : (first_refused L before (each_read_as f rest)).position ≡ first_faulty f L before rest
  pub none_refused : first_faulty f L before rest ≡ 0 → (first_refused L before (each_read_as f rest)).number ≡ 0
  pub none_faulty : (first_refused L before (each_read_as f rest)).number ≡ 0 → first_faulty f L before rest ≡ 0
  pub all_read : first_faulty f L before rest ≡ 0 → each_read_as f rest ≡ spaces_of rest

module _ (f : Form) (L : Hundredths) (before : List Space) (numbers : List ℕ) (rest : List (List ℕ)) where
  -- a faulty record ends it
  ends : (x : Space) → read_as f numbers ≡ x → (record_number L before x ≡ 0 → ⊥) → faulty f L before numbers ≡ true
      → Judged f L before (numbers ∷ rest)
  ends x same refused fault =
      let here : first_faulty f L before (numbers ∷ rest) ≡ length before + 1 = rw fault in
      let stop : first_refused L before (each_read_as f (numbers ∷ rest)) ≡ record { number = record_number L before x; position = length before + 1 } =
      rw (same, ne_eqb (record_number L before x) 0 refused) in
      record {
        position_is = ap (λ (r : RefusedRecord). r.position) stop ∙ sym here;
        none_refused = λ z. let never : ⊥ = omega (arith, here) in absurd never;
        none_faulty = λ z. absurd (refused (sym (ap (λ (r : RefusedRecord). r.number) stop) ∙ z));
        all_read = λ z. let never : ⊥ = omega (arith, here) in absurd never;
      }

  -- and one that isn't leaves it to the others
  goes_on : read_as f numbers ≡ space_of numbers → record_number L before (space_of numbers) ≡ 0 → faulty f L before numbers ≡ false
      → Judged f L (before ++ (space_of numbers ∷ [])) rest → Judged f L before (numbers ∷ rest)
  goes_on same taken sound others =
      let same-fault : first_faulty f L before (numbers ∷ rest) ≡ first_faulty f L (before ++ (space_of numbers ∷ [])) rest = rw sound in
      let r : first_refused L before (each_read_as f (numbers ∷ rest)) ≡ first_refused L (before ++ (space_of numbers ∷ [])) (each_read_as f rest) =
      rw (same, eq-eqb _ 0 taken) in
      record {
        position_is = ap (λ (x : RefusedRecord). x.position) r ∙ others.position_is ∙ sym same-fault;
        none_refused = λ z. ap (λ (x : RefusedRecord). x.number) r ∙ others.none_refused (sym same-fault ∙ z);
        none_faulty = λ z. same-fault ∙ others.none_faulty (sym (ap (λ (x : RefusedRecord). x.number) r) ∙ z);
        all_read = λ z. rw (same, others.all_read (sym same-fault ∙ z));
      }

  out_of_range : fitting (record_fields f) numbers ≡ false → Judged f L before (numbers ∷ rest)
  unfolding read_as
  out_of_range e =
      ends empty_space (rw e) (λ z. let never : ⊥ = omega (arith, empty_refused L before, z) in absurd never) (rw e)

  in_range : fitting (record_fields f) numbers ≡ true → ((before : List Space) → Judged f L before rest) → Judged f L before (numbers ∷ rest)
  unfolding read_as
  in_range e others = by (eqb (record_number L before (space_of numbers)) 0) refl
    where
      by : (t : Bool) → eqb (record_number L before (space_of numbers)) 0 ≡ t → Judged f L before (numbers ∷ rest)
      by true q = goes_on (rw e) (eqb-true _ 0 q) (rw (e, q)) (others (before ++ (space_of numbers ∷ [])))
      by false q = ends (space_of numbers) (rw e) (eqb-false _ 0 q) (rw (e, q))

pub judged : (f : Form) (L : Hundredths) (before : List Space) (rest : List (List ℕ)) → Judged f L before rest
judged f L before [] = record { position_is = refl; none_refused = λ z. refl; none_faulty = λ z. refl; all_read = λ z. refl }
judged f L before (numbers ∷ rest) = by (λ first. judged f L first rest) (fitting (record_fields f) numbers) refl
  where
    by : ((first : List Space) → Judged f L first rest) → (t : Bool) → fitting (record_fields f) numbers ≡ t → Judged f L before (numbers ∷ rest)
    by others false e = out_of_range f L before numbers rest e
    by others true e = in_range f L before numbers rest e others

-- a space of a record's numbers has no m to lose
pub no_m : (all : List (List ℕ)) → all_recorded (spaces_of all) ≡ spaces_of all
no_m [] = refl
no_m (numbers ∷ rest) = ap (λ (xs : List Space). space_of numbers ∷ xs) (no_m rest)

-- what the sheet's own `resumed` answers of a file's records
pub record Resumes (f : Form) (L : Hundredths) (vessel : ℕ) (all : List (List ℕ)) : Type 0 where
  pub position_is : (resumed L vessel (each_read_as f all)).position ≡ first_faulty f L [] all
  pub sheet_is : first_faulty f L [] all ≡ 0 → (resumed L vessel (each_read_as f all)).sheet ≡ with_standing (spaces_of all) (blank true L vessel)

pub resumes : (f : Form) (L : Hundredths) (vessel : ℕ) (all : List (List ℕ)) → includes tonnage_lengths L.0 ≡ true → Resumes f L vessel all
unfolding resumed
resumes f L vessel all fits = by (eqb (first_refused L [] (each_read_as f all)).number 0) refl
  where
    j : Judged f L [] all
    j = judged f L [] all

    by : (t : Bool) → eqb (first_refused L [] (each_read_as f all)).number 0 ≡ t → Resumes f L vessel all
    by true e =
        let z = j.none_faulty (eqb-true _ 0 e) in
        record { position_is = rw (fits, e) (sym z); sheet_is = λ none. rw (fits, e, j.all_read none, no_m all) }
    by false e =
        let faulty' : first_faulty f L [] all ≡ 0 → ⊥ = λ none. eqb-false _ 0 e (j.none_refused none) in
        record { position_is = rw (fits, e) j.position_is; sheet_is = λ none. absurd (faulty' none) }

-- of the last sheet of a file, as the code has its trailer, its start and its spaces
module _ (file : List ℕ) (off : no_sheet file ≡ false) where
  pub count_fits : (last_trailer file).count ≤ 200
  count_fits = within_trailer (last_numbers file) 1 (lit< tt) (framed file off).right

  pub resumed_last : (t : Trailer) (f : Form) (start vessel : ℕ) (xs : List Space) (r : Resumed) → t ≡ last_trailer file → f ≡ last_form file
      → start ≡ start_of file → vessel ≡ last_vessel file
      → xs ≡ each_read_as f (records_in f t.count (drop start file))
      → r ≡ resumed t.tonnage_length vessel xs
      → (r.position ≡ fault_in file) × (fault_in file ≡ 0 → r.sheet ≡ sheet_in file)
  unfolding fault_in sheet_in
  resumed_last t f start vessel xs r e₁ e₂ e₃ e₄ read e₅ =
      let L = (last_trailer file).tonnage_length in
      let all : xs ≡ each_read_as (last_form file) (last_records file) =
      read ∙ rw (e₁, e₂, e₃) in
      let same : r ≡ resumed L (last_vessel file) (each_read_as (last_form file) (last_records file)) = e₅ ∙ rw (all, e₁, e₄) in
      let fits = tonnage_length_fits (drop (length file - trailer_size) file) (framed file off).right in
      let q = resumes (last_form file) L (last_vessel file) (last_records file) fits in
      (ap (λ (x : Resumed). x.position) same ∙ q.position_is, λ none. ap (λ (x : Resumed). x.sheet) same ∙ q.sheet_is none)

-- ---- the numbers in their order

none_either : (t : Bool) → ◌≡◌ {A = ℕ} 0 (cond t 0 0)
none_either true = refl
none_either false = refl

module _ (file : List ℕ) where
  pub refuse_16 : no_sheet file ≡ true → Err (refusal 16) ≡ last_read file
  unfolding read_number last_read
  refuse_16 e = rw e

  pub refuse_17 : no_sheet file ≡ false → (fault_in file ≡ 0 → ⊥) → Err (record { number = 17; position = fault_in file }) ≡ last_read file
  unfolding read_number last_read
  refuse_17 e h = rw (e, ne_eqb (fault_in file) 0 h)

  judged_last : no_sheet file ≡ false → fault_in file ≡ 0 → judged_reading (sheet_in file) (last_trailer file) (start_of file) ≡ last_read file
  unfolding read_number last_read judged_reading
  judged_last e h =
      let n = first_of (trailer_tests (sheet_in file) (last_trailer file)) in
      let wanted : ℕ → Result LastSheet Refusal =
      λ p. cond (eqb n 0) (Ok (read_by (sheet_in file) (last_trailer file) (start_of file))) (Err (record { number = n; position = p })) in
      rw (e, h) (ap wanted (none_either (eqb n 17)))

  pub read_judged : (s : Sheet) (t : Trailer) (start : ℕ) → s ≡ sheet_in file → t ≡ last_trailer file → start ≡ start_of file
      → no_sheet file ≡ false → fault_in file ≡ 0 → judged_reading s t start ≡ last_read file
  read_judged s t start e₁ e₂ e₃ e h = rw (e₁, e₂, e₃) (judged_last e h)

  -- the record made of it is what reading answers
  pub reading_is : reading_from (last_read file) ≡ read_of file
  unfolding read_of last_read
  reading_is = by_test (eqb (read_number file) 0) (λ t. rw t) (λ f. rw f)

  pub read_17 : no_sheet file ≡ false → (fault_in file ≡ 0 → ⊥) → refused_reading 17 (fault_in file) ≡ read_of file
  read_17 e h = ap reading_from (refuse_17 e h) ∙ reading_is

  pub accepted_is : (r : LastSheet) → last_read file ≡ Ok r → accepted_from r ≡ read_of file
  accepted_is r e = sym (ap reading_from e) ∙ reading_is

  pub refusal_is : (r : Refusal) → last_read file ≡ Err r → (refused_reading r.number r.position ≡ read_of file) × (r.number ≡ 0 → ⊥)
  unfolding last_read
  refusal_is r e =
      by_test (eqb (read_number file) 0)
      (λ zero. let s : ◌≡◌ {A = Result LastSheet Refusal} (Ok _) (Err r) = rw zero at e in (cc, cc))
      (λ some. let s : ◌≡◌ {A = Result LastSheet Refusal} (Err _) (Err r) = rw some at e in
      let same : r.number ≡ read_number file = cc in
      (sym (ap reading_from e) ∙ reading_is, λ z. eqb-false _ 0 some (sym same ∙ z)))

-- ---- 13, 14 and 18

module _ (s : Sheet) (t : Trailer) (start : ℕ) where
  pub unreported : (n : ℕ) → (reported s t.justified).number ≡ n → (n ≡ 0 → ⊥) → Err (refusal n) ≡ judged_reading s t start
  unfolding judged_reading
  unreported n e h = rw (e, ne_eqb n 0 h, ne_eqb n 0 h)

  pub other_gross : (reported s t.justified).number ≡ 0 → (gross (standing s) ≡ t.gross → ⊥) → Err (refusal 18) ≡ judged_reading s t start
  unfolding judged_reading
  other_gross e h = rw (e, ne_eqb (gross (standing s)) t.gross h)

  pub other_net : (reported s t.justified).number ≡ 0 → gross (standing s) ≡ t.gross → (net (standing s) ≡ t.net → ⊥)
      → Err (refusal 18) ≡ judged_reading s t start
  unfolding judged_reading
  other_net e g h = rw (e, eq-eqb (gross (standing s)) t.gross g, ne_eqb (net (standing s)) t.net h)

  pub same_figures : (reported s t.justified).number ≡ 0 → gross (standing s) ≡ t.gross → net (standing s) ≡ t.net
      → Ok (read_by s t start) ≡ judged_reading s t start
  unfolding judged_reading
  same_figures e g n = rw (e, eq-eqb (gross (standing s)) t.gross g, eq-eqb (net (standing s)) t.net n)

-- ---- a file whose reading is accepted

none_applies : (file : List ℕ) → read_number file ≡ 0
    → read_of file ≡ accepted_reading (sheet_in file) (last_trailer file).justified (start_of file) (last_trailer file).form → ReadingAccepted file
unfolding read_number
none_applies file e same =
    let s = sheet_in file in
    let t = last_trailer file in
    let figures : List (Bool × ℕ) = (not (eqb (gross (standing s)) t.gross) || not (eqb (net (standing s)) t.net), 18) ∷ [] in
    let a = passed (no_sheet file) 16 ((not (eqb (fault_in file) 0), 17) ∷ trailer_tests s t) e (λ z. omega arith) in
    let b = passed (not (eqb (fault_in file) 0)) 17 (trailer_tests s t) a.1 (λ z. omega arith) in
    let c = after_call (reported s t.justified).number figures b.1 in
    let d = or_fails _ _ (passed _ 18 [] c.1 (λ z. omega arith)).0 in
    record {
      ends_in_sheet = a.0;
      no_fault = eqb-true _ 0 (not-false _ b.0);
      reports = c.0;
      gross_is = eqb-true _ _ (not-false _ d.0);
      net_is = eqb-true _ _ (not-false _ d.1);
      reading_is = same;
    }

pub reading_accepted : (file : List ℕ) → (read_of file).number ≡ 0 → ReadingAccepted file
unfolding read_of refused_reading
reading_accepted file e =
    by_test (eqb (read_number file) 0)
    (λ t. none_applies file (eqb-true _ 0 t) (rw t))
    (λ f. let z : read_number file ≡ 0 = rw f at e in absurd (eqb-false _ 0 f z))

-- the sheet that was read can be reported with its mark
pub read_reports : (file : List ℕ) (r : Reading) → r ≡ read_of file → r.number ≡ 0 → (reported r.sheet r.justified).number ≡ 0
read_reports file r is e =
    let a = reading_accepted file (rw is at e) in
    rw (is, a.reading_is) a.reports

-- the position is 0 with every number but 17
pub position_with_17 : (file : List ℕ) → cond (eqb (read_of file).number 17) (read_of file).position 0 ≡ (read_of file).position
unfolding read_of refused_reading
position_with_17 file =
    by_test (eqb (read_number file) 0)
    (λ t. rw t)
    (λ f. rw f (by_test (eqb (read_number file) 17) (λ t. rw t) (λ g. rw g)))
