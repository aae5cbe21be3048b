-- Read, then written: a sheet that was read has exactly the bytes it was read from. Stands on Records, WrittenRead, Writing.
use Rattle.std.proofs.Common.{ℕ, zero, suc, ◌+◌, ◌*◌, ◌^◌, ◌-◌, ◌≤◌, ◌<◌, ◌≡◌, refl, sym, ap, ap₂, ◌∙◌, subst, true, false, List, [], ◌++◌, append-nil, arith, lit≤, length, take, drop, length-drop, take-append-drop, drop_of_length-le, length-take-le, take_all, drop-drop}
use native.Mathlib.Nat.{pow-le-pow_right}
use Rattle.measure.proofs.Laws.Volumes.{at_most_take, at_most_drop}
use Rattle.spaces.specs.Space.{all_recorded}
use Rattle.spaces.specs.declared.space.Space.{Space}
use Rattle.spaces_laws.proofs.Tests.{or_fails_of}
use Rattle.measure.specs.declared.units.Hundredths.{Hundredths}
use Rattle.standard.specs.Gross.{gross, net}
use Rattle.sheet.specs.Sheet.{standing}
use Rattle.sheet.specs.declared.sheet.Sheet.{Sheet}
use Rattle.standard.specs.Records.{first_refused}
use Rattle.sheet_laws.proofs.Resumable.{resumable_exactly, OfRecords}
use Rattle.dayfile.specs.Numbers.{Bytes, bytes_of, number_of}
use Rattle.dayfile.specs.Forms.{is_form}
use Rattle.dayfile.specs.Record.{record_size, records, records_in, spaces_of}
use Rattle.dayfile.specs.Trailer.{trailer_size, end_size, sheet_size, vessel_bytes, trailer_bytes}
use Rattle.dayfile.specs.Writing.{trailer_for, sheet_bytes, loses_number, written_into}
use Rattle.dayfile.specs.Reading.{last_numbers, last_trailer, last_form, start_of, last_records, last_vessel, fault_in, sheet_in, read_of, ReadingAccepted}
use Rattle.dayfile.specs.declared.forms.Form.{Form}
use Rattle.dayfile.proofs.Laws.Forms.{narrow_vessel}
use Rattle.dayfile.proofs.Laws.Trailer.{tells_form, tonnage_length_fits}
use Rattle.dayfile.proofs.Laws.Reading.{Framed, framed, count_fits, judged, reading_accepted, no_m}
use Rattle.dayfile_laws.specs.Writing.{Writes}
use Rattle.dayfile_laws.specs.Day.{ResumableSheet, Writable, sheet_with}
use Rattle.dayfile_laws.proofs.Numbers.{bytes_of_number, number_below}
use Rattle.dayfile_laws.proofs.Forms.{read_not_lost}
use Rattle.dayfile_laws.proofs.Records.{records_written, decks_kept, trailer_written}
use Rattle.dayfile_laws.proofs.Resumed.{standing_same, length_same, vessel_same, has_200_places, made_again}
use Rattle.dayfile_laws.proofs.Writing.{puts_its_bytes}
use Rattle.dayfile_laws.proofs.WrittenRead.{has_places}

-- ---- its sheet, and the bytes of it

pub length_spaces : (f : Form) (n : ℕ) (bytes : List ℕ) → length (spaces_of (records_in f n bytes)) ≡ n
length_spaces f zero bytes = refl
length_spaces f (suc n) bytes = ap suc (length_spaces f n (drop (record_size f) bytes))

-- a trailer with the numbers of a sheet is the sheet's
trailer_is : (s : Sheet) (justified form n g m : ℕ) (l : Hundredths) → n ≡ s.count → l ≡ s.length → g ≡ gross (standing s) → m ≡ net (standing s)
    → record { count = n; justified = justified; form = form; tonnage_length = l; gross = g; net = m } ≡ trailer_for s justified form
trailer_is s justified form n g m l e₁ e₂ e₃ e₄ = rw (e₁, e₂, e₃, e₄)

module _ (file : List ℕ) (a : ReadingAccepted file) where
  frame : Framed file
  frame = framed file a.ends_in_sheet

  few : (last_trailer file).count ≤ 200
  few = count_fits file a.ends_in_sheet

  -- "Reading judges the last sheet": from its start to the end of the file
  pub last_sheet : start_of file + sheet_size (last_form file) (last_trailer file).count ≡ length file
  last_sheet = omega (arith, frame.reaches)

  count_is : length (spaces_of (last_records file)) ≡ (last_trailer file).count
  count_is = length_spaces (last_form file) (last_trailer file).count (drop (start_of file) file)

  standing_is : standing (sheet_in file) ≡ spaces_of (last_records file)
  unfolding sheet_in
  standing_is = standing_same (last_trailer file).tonnage_length (last_vessel file) (spaces_of (last_records file))

  vessel_is : (sheet_in file).vessel ≡ last_vessel file
  unfolding sheet_in
  vessel_is = vessel_same (last_trailer file).tonnage_length (last_vessel file) (spaces_of (last_records file))

  trailer_same : last_trailer file ≡ trailer_for (sheet_in file) (last_trailer file).justified (last_trailer file).form
  unfolding sheet_in
  trailer_same =
      let t = last_trailer file in
      trailer_is (sheet_in file) t.justified t.form t.count t.gross t.net t.tonnage_length
      (sym count_is)
      (sym (length_same t.tonnage_length (last_vessel file) (spaces_of (last_records file))))
      (sym a.gross_is)
      (sym a.net_is)

  -- its form is known, and loses no number of it
  form_known : is_form (last_trailer file).form ≡ true
  form_known = tells_form (last_numbers file) frame.right

  none_lost : loses_number (last_form file) (sheet_in file) ≡ false
  unfolding loses_number
  none_lost =
      let f = last_form file in
      rw (vessel_is, standing_is)
      (or_fails_of _ _ (read_not_lost f.vessel (drop (length file - end_size f) file)) (decks_kept f (last_trailer file).count (drop (start_of file) file)))

  -- the bytes between its records and its trailer
  abbrev end : List ℕ
  end = drop (length file - end_size (last_form file)) file

  length_of_end : length end ≡ end_size (last_form file)
  length_of_end = length-drop (length file - end_size (last_form file)) file ∙ omega (arith, frame.reaches)

  -- so a vessel number of bytes is one of 32 bits
  vessel_in_range : Bytes file → last_vessel file ≤ 4294967295
  vessel_in_range bytes =
      let w = (last_form file).vessel in
      let four : 256 ^ w ≤ 256 ^ 4 = pow-le-pow_right (lit≤ tt) (narrow_vessel (last_trailer file).form) in
      let less : number_of (take w end) < 256 ^ length (take w end) = number_below (at_most_take w (at_most_drop (length file - end_size (last_form file)) bytes)) in
      let long : length (take w end) ≡ w = length-take-le w end (omega (arith, length_of_end)) in
      omega (arith, four, rw long at less)

  -- `resume` accepts what was read
  read_resumes : Bytes file → ResumableSheet (sheet_in file)
  unfolding sheet_in fault_in
  read_resumes bytes =
      let L = (last_trailer file).tonnage_length in
      let v = last_vessel file in
      let all = last_records file in
      let j = judged (last_form file) L [] all in
      let none : (first_refused L [] (spaces_of all)).number ≡ 0 = rw (j.all_read a.no_fault) at (j.none_refused a.no_fault) in
      let fits = tonnage_length_fits (drop (length file - trailer_size) file) frame.right in
      record {
        places = has_200_places L v (spaces_of all) (omega (arith, count_is, few));
        vessel_in_range = rw (vessel_same L v (spaces_of all)) (vessel_in_range bytes);
        length_in_range = rw (length_same L v (spaces_of all)) fits;
        resumable = rw (length_same L v (spaces_of all), standing_same L v (spaces_of all)) ((resumable_exactly L (spaces_of all)).0 none);
      }

  vessel_bytes_lem : Bytes file → vessel_bytes (last_form file) (last_vessel file) ≡ take (last_form file).vessel end
  vessel_bytes_lem bytes =
      let w = (last_form file).vessel in
      let long : length (take w end) ≡ w = length-take-le w end (omega (arith, length_of_end)) in
      subst (λ (n : ℕ). bytes_of n (last_vessel file) ≡ take w end) long
      (bytes_of_number (at_most_take w (at_most_drop (length file - end_size (last_form file)) bytes)))

  trailer_bytes_lem : Bytes file → trailer_bytes (last_trailer file) ≡ drop (last_form file).vessel end
  trailer_bytes_lem bytes =
      let f = last_form file in
      let last = drop (length file - trailer_size) file in
      let length-of-last : length last ≡ trailer_size = length-drop (length file - trailer_size) file ∙ omega (arith, frame.long) in
      let behind : length file - end_size f + f.vessel ≡ length file - trailer_size = omega (arith, frame.reaches) in
      trailer_written last (at_most_drop (length file - trailer_size) bytes) (omega (arith, length-of-last)) frame.right
      ∙ take_all trailer_size last (omega (arith, length-of-last))
      ∙ sym (drop-drop f.vessel (length file - end_size f) file ∙ ap (λ (n : ℕ). drop n file) behind)

  bytes_same : Bytes file → sheet_bytes (sheet_in file) (last_trailer file).justified (last_trailer file).form ≡ drop (start_of file) file
  unfolding sheet_bytes fault_in
  bytes_same bytes =
      let t = last_trailer file in
      let f = last_form file in
      let xs = spaces_of (last_records file) in
      let k = record_size f * t.count in
      let sheet = drop (start_of file) file in
      let length-of-sheet : length sheet ≡ sheet_size f t.count = length-drop (start_of file) file ∙ omega (arith, last_sheet) in
      let records-same : records f xs ≡ take k sheet =
      records_written f t.tonnage_length [] t.count sheet (at_most_drop (start_of file) bytes) (omega (arith, length-of-sheet)) a.no_fault in
      let at-end : start_of file + k ≡ length file - end_size f = omega (arith, last_sheet) in
      let end_is : end ≡ drop k sheet = sym (drop-drop k (start_of file) file ∙ ap (λ (n : ℕ). drop n file) at-end) in
      let end_same : vessel_bytes f (last_vessel file) ++ trailer_bytes t ≡ end =
      ap₂ (λ (x y : List ℕ). x ++ y) (vessel_bytes_lem bytes) (trailer_bytes_lem bytes) ∙ take-append-drop f.vessel end in
      ap₂ (λ (l : List Space) (v : ℕ). records f l ++ (vessel_bytes f v ++ trailer_bytes (trailer_for (sheet_in file) t.justified t.form))) standing_is vessel_is
      ∙ ap (λ u. records f xs ++ (vessel_bytes f (last_vessel file) ++ trailer_bytes u)) (sym trailer_same)
      ∙ ap₂ (λ (x y : List ℕ). x ++ y) records-same (end_same ∙ end_is)
      ∙ take-append-drop k sheet

-- ---- read, then written

module _ (file : List ℕ) (read : (read_of file).number ≡ 0) where
  known : ReadingAccepted file
  known = reading_accepted file read

  -- what was read can be written in the form it was read in
  pub read_is_writable : Bytes file → Writable (read_of file).sheet (read_of file).justified (read_of file).form
  read_is_writable bytes =
      rw known.reading_is
      (record { sheet = read_resumes file known bytes; reports = known.reports; known = form_known file known; none_lost = none_lost file known })

  -- its bytes are those it was read from, up to the end of the file
  pub read_then_written : Bytes file → sheet_bytes (read_of file).sheet (read_of file).justified (read_of file).form ≡ drop (read_of file).start file
  read_then_written bytes = rw known.reading_is (bytes_same file known bytes)

  pub start_before_end : (read_of file).start < length file
  start_before_end = rw known.reading_is (omega (arith, last_sheet file known))

  -- and a write puts exactly those at the named place, wherever there is room
  pub written_back : Bytes file → (at : ℕ) (buffer : List ℕ) → at + length (drop (read_of file).start file) ≤ length buffer
      → Writes (drop (read_of file).start file) (read_of file).sheet (read_of file).justified (read_of file).form at buffer
  written_back bytes at buffer space =
      let s = (read_of file).sheet in
      let mark = (read_of file).justified in
      let form = (read_of file).form in
      let same = read_then_written bytes in
      let w = read_is_writable bytes in
      let few = has_places s mark form w in
      rw same at (puts_its_bytes s mark form at buffer w.reports w.known w.none_lost few (omega (arith, ap length same, space)))

  -- at its own start in the file that changes nothing
  pub file_unchanged : Bytes file → written_into (read_of file).sheet (read_of file).justified (read_of file).form (read_of file).start file ≡ file
  file_unchanged bytes =
      let start = (read_of file).start in
      let last = drop start file in
      let size : start + length last ≡ length file = omega (arith, length-drop start file, start_before_end) in
      (written_back bytes start file (omega arith)).into
      ∙ ap (λ (l : List ℕ). l ++ drop (start + length last) file) (take-append-drop start file)
      ∙ ap (λ (l : List ℕ). file ++ l) (drop_of_length-le file {i = start + length last} (omega arith))
      ∙ append-nil file

  pub read_again : (let s = (read_of file).sheet in sheet_with s.length s.vessel (standing s) ≡ s)
  unfolding sheet_in
  read_again = rw known.reading_is (made_again (last_trailer file).tonnage_length (last_vessel file) (spaces_of (last_records file)))

  pub read_without_m : all_recorded (standing (read_of file).sheet) ≡ standing (read_of file).sheet
  read_without_m = rw (known.reading_is, standing_is file known) (no_m (last_records file))

  -- what was read is the sheet of its records, with no open changes
  pub read_of_records : Bytes file → let s = (read_of file).sheet in OfRecords s.length s.vessel (standing s) s
  read_of_records bytes =
      let s = (read_is_writable bytes).sheet in
      record { length_in_range = s.length_in_range; resumable = s.resumable; without_m = read_without_m; sheet_is = sym read_again }
