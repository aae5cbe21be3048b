-- Written, then read: a sheet that resumes comes back from its bytes, whatever stands before them. Stands on LastSheet, Fitting,
-- Writing.
use Rattle.std.proofs.Common.{ℕ, ◌+◌, ◌-◌, ◌≤◌, ◌≡◌, refl, sym, ap, ap₂, ◌∙◌, true, false, List, [], ◌∷◌, ◌++◌, map, arith, eq-eqb, length, take, drop, length-take-le, take_at}
use mathlib.Core.List.Memᴰ
use lib.ListN.{length-map}
use Rattle.measure.specs.declared.units.Hundredths.{Hundredths}
use Rattle.standard.specs.Gross.{gross, net, reckoned}
use Rattle.standard.specs.declared.gross.Reckoning.{Reckoning}
use Rattle.standard.specs.declared.records.RefusedRecord.{RefusedRecord}
use Rattle.spaces.specs.Space.{recorded, all_recorded}
use Rattle.spaces.specs.declared.space.Space.{Space}
use Rattle.spaces.proofs.Laws.Cases.{or_fails}
use Rattle.spaces_laws.proofs.Tests.{and_holds_of}
use Rattle.spaces_laws.proofs.Lists.{◌∈◌}
use Rattle.spaces_laws.proofs.Recorded.{first_refused_recorded, reckoned_recorded}
use Rattle.sheet.specs.Sheet.{standing}
use Rattle.sheet.specs.Calls.{reported}
use Rattle.standard.specs.Records.{first_refused}
use Rattle.sheet.specs.declared.sheet.Sheet.{Sheet}
use Rattle.sheet.proofs.Laws.Sheet.{usable_counts}
use Rattle.sheet.proofs.Laws.Report.{Given, given}
use Rattle.sheet_laws.proofs.Resumable.{Resumable, resumable_exactly}
use Rattle.dayfile.specs.Numbers.{number_of}
use Rattle.dayfile.specs.Fields.{fitting}
use Rattle.dayfile.specs.Forms.{form_of, form_told, lost}
use Rattle.dayfile.specs.Record.{numbers_of, records, records_in, spaces_of}
use Rattle.dayfile.specs.Trailer.{trailer_fields, trailer_size, end_size, sheet_size, numbers_of_trailer, vessel_bytes, vessel_in, trailer_numbers, trailer_right, trailer_of, trailer_bytes}
use Rattle.dayfile.specs.Writing.{trailer_for, sheet_bytes, loses_deck, loses_number, written, placed, written_into}
use Rattle.dayfile.specs.Reading.{last_numbers, last_trailer, last_form, last_records, last_vessel, first_faulty, fault_in, sheet_in, accepted_reading, read_of}
use Rattle.dayfile.specs.Handed.{read_as, each_read_as}
use Rattle.dayfile.specs.declared.forms.Form.{Form}
use Rattle.dayfile.proofs.Laws.Writing.{length_trailer, length_vessel, length_end, length_sheet}
use Rattle.dayfile.proofs.Laws.Reading.{judged, read_judged, accepted_is, same_figures}
use Rattle.dayfile_laws.specs.Reading.{ReadBack}
use Rattle.dayfile_laws.specs.Day.{ResumableSheet, Writable, sheet_with, as_read}
use Rattle.dayfile_laws.proofs.Numbers.{number_of_bytes}
use Rattle.dayfile_laws.proofs.Fields.{InFields, fitting_of}
use Rattle.dayfile_laws.proofs.Forms.{told_again, vessel_fits, distance_fits, byte_fits}
use Rattle.dayfile_laws.proofs.LastSheet.{same_last, same_numbers, WholeSheet, trailer_behind, starts_behind, records_behind, vessel_behind, framed_behind}
use Rattle.dayfile_laws.proofs.Records.{Fits, records_read, spaces_of_numbers, recorded_same, trailer_read}
use Rattle.dayfile_laws.proofs.Resumed.{standing_same, length_same, vessel_same, is_usable, same_report, none_open}
use Rattle.dayfile_laws.proofs.Fitting.{in_range, each_fits, gross_at_most, net_at_most}
use Rattle.dayfile_laws.proofs.Writing.{placed_up_to, write_accepted}

-- records that fit are handed to the sheet as they are, but for their m
each_read_as_lem : (form : ℕ) (xs : List Space) → ((x : Space) → x ∈ xs → Fits form x) → each_read_as (form_of form) (map numbers_of xs) ≡ all_recorded xs
unfolding read_as
each_read_as_lem form [] fit = refl
each_read_as_lem form (x ∷ xs) fit = rw (fit x (Memᴰ.head refl), each_read_as_lem form xs (λ y m. fit y (Memᴰ.tail m)))

-- so none is faulty that `resume` accepts
none_faulty : (form : ℕ) (L : Hundredths) (xs : List Space) → ((x : Space) → x ∈ xs → Fits form x) → (first_refused L [] xs).number ≡ 0
    → first_faulty (form_of form) L [] (map numbers_of xs) ≡ 0
none_faulty form L xs fit none =
    (judged (form_of form) L [] (map numbers_of xs)).none_faulty
    (rw (each_read_as_lem form xs fit) (ap (λ (r : RefusedRecord). r.number) (first_refused_recorded L [] xs) ∙ none))

-- ---- written, then read

module _ (s : Sheet) (justified form : ℕ) (w : Writable s justified form) where
  report_given : Given s justified (reported s justified)
  report_given = given s justified (reported s justified) refl w.reports

  few : s.count ≤ 200
  few = (usable_counts s report_given.is_usable).places

  taken : Resumable s.length (standing s)
  taken = w.sheet.resumable

  pub has_places : s.count ≤ length s.spaces
  has_places = omega (arith, few, w.sheet.places)

  length_standing : length (standing s) ≡ s.count
  length_standing = length-take-le s.count s.spaces has_places

  pub at_most_200 : length (standing s) ≤ 200
  at_most_200 = omega (arith, length_standing, few)

  pub length_bytes : length (sheet_bytes s justified form) ≡ sheet_size (form_of form) s.count
  length_bytes = length_sheet s justified form has_places

  none_lost : (lost (form_of form).vessel s.vessel ≡ false) × (loses_deck (form_of form) (standing s) ≡ false)
  unfolding loses_number
  none_lost = or_fails (lost (form_of form).vessel s.vessel) _ w.none_lost

  all_fit : (x : Space) → x ∈ standing s → Fits form x
  all_fit = each_fits taken form none_lost.1

  trailer_fits : fitting trailer_fields (numbers_of_trailer (trailer_for s justified form)) ≡ true
  trailer_fits =
      let l = in_range _ s.length.0 w.sheet.length_in_range in
      let facts : InFields trailer_fields (numbers_of_trailer (trailer_for s justified form)) =
      omega (arith, few, distance_fits form s.count few, report_given.marked, byte_fits form, l.0, l.1, gross_at_most taken, net_at_most taken) in
      fitting_of trailer_fields (numbers_of_trailer (trailer_for s justified form)) facts

  told : form_told (form_of form).tells ≡ form
  told = told_again form w.known

  trailer_right_lem : trailer_right (numbers_of_trailer (trailer_for s justified form)) ≡ true
  unfolding trailer_right
  trailer_right_lem =
      and_holds_of _ _ (and_holds_of _ _ trailer_fits (rw told w.known))
      (eq-eqb (sheet_size (form_of form) s.count) _ (ap (λ (k : ℕ). sheet_size (form_of k) s.count) (sym told)))

  -- the sheet read gives the same report, since nothing that is reckoned looks at m
  pub few_recorded : length (all_recorded (standing s)) ≤ 200
  few_recorded = omega (arith, length-map (standing s) recorded, at_most_200)

  same_reckoning : reckoned (standing (as_read s)) ≡ reckoned (standing s)
  same_reckoning = ap reckoned (standing_same s.length s.vessel (all_recorded (standing s))) ∙ reckoned_recorded (standing s)

  reports_again : (reported (as_read s) justified).number ≡ 0
  reports_again =
      same_report (as_read s) s justified (is_usable s.length s.vessel (all_recorded (standing s)) few_recorded) report_given.is_usable
      same_reckoning
      (length_same s.length s.vessel (all_recorded (standing s)))
      ∙ w.reports

  -- its end: the vessel number, where the form has it, and the trailer
  abbrev end : List ℕ
  end = vessel_bytes (form_of form) s.vessel ++ trailer_bytes (trailer_for s justified form)

  length_of_end : length end ≡ end_size (form_of form)
  length_of_end = length_end s.vessel (trailer_for s justified form)

  numbers_at_end : last_numbers (sheet_bytes s justified form) ≡ numbers_of_trailer (trailer_for s justified form)
  unfolding sheet_bytes
  numbers_at_end =
      let t = trailer_bytes (trailer_for s justified form) in
      let all = length_trailer (trailer_for s justified form) in
      same_numbers (records (form_of form) (standing s)) end (omega (arith, length_of_end))
      ∙ same_numbers (vessel_bytes (form_of form) s.vessel) t (omega (arith, all))
      ∙ ap (λ (n : ℕ). trailer_numbers (drop (n - trailer_size) t)) all
      ∙ trailer_read s justified form trailer_fits

  form_at_end : last_form (sheet_bytes s justified form) ≡ form_of form
  form_at_end = ap (λ (numbers : List ℕ). form_of (trailer_of numbers).form) numbers_at_end ∙ ap form_of told

  vessel_at_end : last_vessel (sheet_bytes s justified form) ≡ s.vessel
  unfolding sheet_bytes
  vessel_at_end =
      let f = form_of form in
      let front = records f (standing s) in
      let t = trailer_bytes (trailer_for s justified form) in
      let at_front : end_size f - end_size f ≡ 0 = omega arith in
      ap (λ (g : Form). vessel_in g (front ++ end)) form_at_end
      ∙ ap (λ (bytes : List ℕ). number_of (take f.vessel bytes)) (same_last front end (end_size f) (omega (arith, length_of_end)))
      ∙ ap (λ (n : ℕ). number_of (take f.vessel (drop (n - end_size f) end))) length_of_end
      ∙ ap (λ (n : ℕ). number_of (take f.vessel (drop n end))) at_front
      ∙ ap number_of (take_at (vessel_bytes f s.vessel) t f.vessel (length_vessel f s.vessel))
      ∙ number_of_bytes f.vessel s.vessel (vessel_fits form s.vessel none_lost.0 w.sheet.vessel_in_range)

  whole : WholeSheet (sheet_bytes s justified form)
  whole =
      record {
        right = ap trailer_right numbers_at_end ∙ trailer_right_lem;
        size_is =
            length_bytes
            ∙ sym (ap (λ (f : Form). sheet_size f (last_trailer (sheet_bytes s justified form)).count) form_at_end ∙ ap (λ (numbers : List ℕ). sheet_size (form_of form) (trailer_of numbers).count) numbers_at_end);
      }

  module _ (pre : List ℕ) where
    abbrev file : List ℕ
    file = pre ++ sheet_bytes s justified form

    trailer_is : last_trailer file ≡ trailer_for s justified form
    trailer_is =
        trailer_behind whole pre
        ∙ ap trailer_of numbers_at_end
        ∙ ap (λ (k : ℕ). record { count = s.count; justified = justified; form = k; tonnage_length = s.length; gross = gross (standing s); net = net (standing s) }) told

    records_are : last_records file ≡ map numbers_of (standing s)
    unfolding sheet_bytes
    records_are =
        let bytes = sheet_bytes s justified form in
        records_behind whole pre
        ∙ ap (λ (f : Form). records_in f (last_trailer bytes).count bytes) form_at_end
        ∙ ap (λ (numbers : List ℕ). records_in (form_of form) (trailer_of numbers).count bytes) numbers_at_end
        ∙ ap (λ (n : ℕ). records_in (form_of form) n bytes) (sym length_standing)
        ∙ records_read form (standing s) end all_fit

    vessel_is : last_vessel file ≡ s.vessel
    vessel_is = vessel_behind whole pre ∙ vessel_at_end

    no_fault : fault_in file ≡ 0
    unfolding fault_in
    no_fault =
        ap (λ t. first_faulty (form_of t.form) t.tonnage_length [] (last_records file)) trailer_is
        ∙ ap (first_faulty (form_of form) s.length []) records_are
        ∙ none_faulty form s.length (standing s) all_fit ((resumable_exactly s.length (standing s)).1 taken)

    sheet_is : sheet_in file ≡ as_read s
    unfolding sheet_in
    sheet_is =
        ap (λ t. sheet_with t.tonnage_length (last_vessel file) (spaces_of (last_records file))) trailer_is
        ∙ ap₂ (λ (vessel : ℕ) (all : List (List ℕ)). sheet_with s.length vessel (spaces_of all)) vessel_is records_are
        ∙ ap (sheet_with s.length s.vessel) (spaces_of_numbers (standing s))

    -- what was written is read, with its mark, where it starts, and its form
    pub written_then_read : read_of (pre ++ sheet_bytes s justified form) ≡ accepted_reading (as_read s) justified (length pre) form
    written_then_read =
        let t = trailer_for s justified form in
        let same = same_reckoning in
        let read =
        same_figures (as_read s) t (length pre) reports_again (ap (λ (r : Reckoning). r.gross) same) (ap (λ (r : Reckoning). r.net) same)
        ∙ read_judged file (as_read s) t (length pre) (sym sheet_is) (sym trailer_is) (sym (starts_behind whole pre)) (framed_behind whole pre) no_fault in
        sym (accepted_is file _ (sym read))

-- ---- the same in the paper's words

pub has_read_back : (s : Sheet) (justified form start : ℕ) → Writable s justified form
    → ReadBack s justified form start (accepted_reading (as_read s) justified start form)
has_read_back s justified form start w =
    let L = s.length in
    let v = s.vessel in
    let xs = all_recorded (standing s) in
    let few = few_recorded s justified form w in
    record {
      accepted = refl;
      same_spaces = rw (standing_same L v xs) (recorded_same (standing s));
      without_m = standing_same L v xs;
      same_length = length_same L v xs;
      same_vessel = vessel_same L v xs;
      same_mark = refl;
      is_open = is_usable L v xs few;
      none_undoable = (none_open L v xs few).0;
      none_redoable = (none_open L v xs few).1;
      starts = refl;
      same_form = refl;
    }

pub read_back : (s : Sheet) (justified form : ℕ) → Writable s justified form → (pre : List ℕ)
    → ReadBack s justified form (length pre) (read_of (pre ++ sheet_bytes s justified form))
read_back s justified form w pre = rw (written_then_read s justified form w pre) (has_read_back s justified form (length pre) w)

-- ---- in any buffer

-- bytes of a sheet placed in a buffer are read up to their end, and start at the named place
pub placed_then_read : (s : Sheet) (justified form at : ℕ) (buffer : List ℕ) → Writable s justified form
    → at + sheet_size (form_of form) s.count ≤ length buffer
    → read_of (take (at + sheet_size (form_of form) s.count) (placed buffer at (sheet_bytes s justified form))) ≡ accepted_reading (as_read s) justified at form
placed_then_read s justified form at buffer w room =
    let bytes = sheet_bytes s justified form in
    let size = length_bytes s justified form w in
    ap read_of
    (ap (λ (n : ℕ). take (at + n) (placed buffer at bytes)) (sym size) ∙ placed_up_to buffer at bytes (omega (arith, room, size)))
    ∙ written_then_read s justified form w (take at buffer)
    ∙ ap (λ (start : ℕ). accepted_reading (as_read s) justified start form) (length-take-le at buffer (omega (arith, room)))

-- so is what an accepted write leaves
pub written_anywhere : (s : Sheet) (justified form at : ℕ) (buffer : List ℕ) → ResumableSheet s → (written s justified form (length buffer) at).number ≡ 0
    → read_of (take (at + (written s justified form (length buffer) at).bytes) (written_into s justified form at buffer)) ≡ accepted_reading (as_read s) justified at form
written_anywhere s justified form at buffer whole e =
    let a = write_accepted s justified form at buffer e in
    let w : Writable s justified form = record { sheet = whole; reports = a.reports; known = a.known; none_lost = a.none_lost } in
    ap₂ (λ (n : ℕ) (bytes : List ℕ). read_of (take (at + n) bytes)) a.bytes_are a.into ∙ placed_then_read s justified form at buffer w a.room
