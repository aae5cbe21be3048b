-- "Reading judges the last sheet only; bytes before it don't matter": a file that ends in a sheet's frame is read the same, accepted or
-- refused, with any other bytes before its last sheet. Of a file without a frame that isn't so. It is refused with 16, and bytes before
-- it can give it one where it is too short: a trailer alone is shorter than its distance, and with its records before it is a sheet.
-- Where its last 28 bytes are no right trailer, it is refused with 16 behind any bytes (`wrong_behind`).
use Rattle.std.proofs.Common.{ℕ, ◌+◌, ◌-◌, ◌≤◌, ◌≡◌, refl, sym, ap, ◌∙◌, Bool, true, false, cond, not, List, [], ◌∷◌, ◌++◌, append_assoc, arith, le-ltb, eqb, ltb, length, take, drop, get_or, length-append, length-drop, take-append-drop, length-take-le}
use lib.Seq.{drop-append_seam, drop-append-add}
use Rattle.measure.specs.Refusals.{first_of}
use Rattle.spaces.proofs.Laws.Cases.{by_test}
use Rattle.dayfile.specs.Numbers.{number_of}
use Rattle.dayfile.specs.Forms.{form_of}
use Rattle.dayfile.specs.Record.{records_in, spaces_of}
use Rattle.dayfile.specs.Trailer.{trailer_size, end_size, sheet_size, trailer_numbers, trailer_right, trailer_of, vessel_in}
use Rattle.dayfile.specs.Reading.{last_numbers, last_trailer, last_form, start_of, last_records, last_vessel, no_sheet, first_faulty, fault_in, sheet_in, trailer_tests, read_number, accepted_reading, refused_reading, read_of}
use Rattle.dayfile.specs.declared.reading.Reading.{Reading}
use Rattle.dayfile.proofs.Laws.Trailer.{distance_is}
use Rattle.dayfile.proofs.Laws.Reading.{by_distance, wrong_trailer, Framed, framed}
use Rattle.dayfile_laws.specs.Reading.{starting_at}
use Rattle.dayfile_laws.specs.Day.{sheet_with}

-- ---- the trailer at the end of some bytes

-- the last n bytes are the same with any others before them
pub same_last : (pre end : List ℕ) (n : ℕ) → n ≤ length end → drop (length (pre ++ end) - n) (pre ++ end) ≡ drop (length end - n) end
same_last pre end n long =
    let cut : length (pre ++ end) - n ≡ length pre + (length end - n) = omega (arith, length-append pre end) in
    ap (λ (k : ℕ). drop k (pre ++ end)) cut ∙ drop-append-add pre end (length end - n)

module _ (pre end : List ℕ) (long : trailer_size ≤ length end) where
  -- and so is the trailer
  pub same_numbers : last_numbers (pre ++ end) ≡ last_numbers end
  same_numbers = ap trailer_numbers (same_last pre end trailer_size long)

  -- so a wrong one stays wrong
  pub wrong_behind : trailer_right (last_numbers end) ≡ false → no_sheet (pre ++ end) ≡ true
  wrong_behind wrong = wrong_trailer (pre ++ end) (omega (arith, length-append pre end)) (ap trailer_right same_numbers ∙ wrong)

-- ---- a sheet behind any bytes

-- its trailer is right, and points back to its first byte
pub record WholeSheet (sheet : List ℕ) : Type 0 where
  pub right : trailer_right (last_numbers sheet) ≡ true
  pub size_is : length sheet ≡ sheet_size (last_form sheet) (last_trailer sheet).count

module _ {sheet : List ℕ} (w : WholeSheet sheet) (pre : List ℕ) where
  abbrev file : List ℕ
  file = pre ++ sheet

  length_file : length file ≡ length pre + sheet_size (last_form sheet) (last_trailer sheet).count
  length_file = length-append pre sheet ∙ ap (λ (n : ℕ). length pre + n) w.size_is

  numbers_behind : last_numbers file ≡ last_numbers sheet
  numbers_behind = same_numbers pre sheet (omega (arith, w.size_is))

  pub trailer_behind : last_trailer file ≡ last_trailer sheet
  trailer_behind = ap trailer_of numbers_behind

  pub starts_behind : start_of file ≡ length pre
  starts_behind = ap (λ t. length file - sheet_size (form_of t.form) t.count) trailer_behind ∙ omega (arith, length_file)

  pub records_behind : last_records file ≡ records_in (last_form sheet) (last_trailer sheet).count sheet
  records_behind =
      ap (λ t. records_in (form_of t.form) t.count (drop (start_of file) file)) trailer_behind
      ∙ ap (λ (n : ℕ). records_in (last_form sheet) (last_trailer sheet).count (drop n file)) starts_behind
      ∙ ap (λ (bytes : List ℕ). records_in (last_form sheet) (last_trailer sheet).count bytes) (drop-append_seam pre sheet)

  pub vessel_behind : last_vessel file ≡ last_vessel sheet
  vessel_behind =
      let f = last_form sheet in
      ap (λ t. vessel_in (form_of t.form) file) trailer_behind
      ∙ ap (λ (bytes : List ℕ). number_of (take f.vessel bytes)) (same_last pre sheet (end_size f) (omega (arith, w.size_is)))

  pub framed_behind : no_sheet file ≡ false
  framed_behind =
      by_distance file (omega (arith, length_file)) (ap trailer_right numbers_behind ∙ w.right)
      ∙ ap (λ (numbers : List ℕ). ltb (length file) (get_or numbers 0 0)) numbers_behind
      ∙ le-ltb (length file) _ (omega (arith, length_file, distance_is (last_numbers sheet) w.right))

-- the last sheet of a file with a frame
module _ (file : List ℕ) (ends_in_sheet : no_sheet file ≡ false) where
  abbrev sheet : List ℕ
  sheet = drop (start_of file) file

  frame : Framed file
  frame = framed file ends_in_sheet

  parts : take (start_of file) file ++ sheet ≡ file
  parts = take-append-drop (start_of file) file

  length_sheet : length sheet ≡ sheet_size (last_form file) (last_trailer file).count
  length_sheet = length-drop (start_of file) file ∙ omega (arith, frame.reaches)

  whole : WholeSheet sheet
  whole =
      let numbers : last_numbers file ≡ last_numbers sheet =
      ap last_numbers (sym parts) ∙ same_numbers (take (start_of file) file) sheet (omega (arith, length_sheet)) in
      record {
        right = ap trailer_right (sym numbers) ∙ frame.right;
        size_is = length_sheet ∙ ap (λ (v : List ℕ). sheet_size (form_of (trailer_of v).form) (trailer_of v).count) numbers;
      }

-- ---- read

-- a reading over all that it looks at: whether there is no frame, the trailer's numbers, the records, the vessel number, and the start,
-- which it only answers
unfoldable reading_of : Bool → List ℕ → List (List ℕ) → ℕ → ℕ → Reading
reading_of frameless numbers all vessel start =
    let t = trailer_of numbers in
    let s = sheet_with t.tonnage_length vessel (spaces_of all) in
    let fault = first_faulty (form_of t.form) t.tonnage_length [] all in
    let number = first_of ((frameless, 16) ∷ (not (eqb fault 0), 17) ∷ trailer_tests s t) in
    cond (eqb number 0) (accepted_reading s t.justified start t.form) (refused_reading number (cond (eqb number 17) fault 0))

reading_is : (file : List ℕ) → read_of file ≡ reading_of (no_sheet file) (last_numbers file) (last_records file) (last_vessel file) (start_of file)
unfolding read_of read_number fault_in sheet_in reading_of
reading_is _ = refl

at_another_start : (frameless : Bool) (numbers : List ℕ) (all : List (List ℕ)) (vessel start other : ℕ)
    → reading_of frameless numbers all vessel other ≡ starting_at other (reading_of frameless numbers all vessel start)
unfolding reading_of refused_reading
at_another_start frameless numbers all vessel start other =
    let t = trailer_of numbers in
    let s = sheet_with t.tonnage_length vessel (spaces_of all) in
    let fault = first_faulty (form_of t.form) t.tonnage_length [] all in
    by_test (eqb (first_of ((frameless, 16) ∷ (not (eqb fault 0), 17) ∷ trailer_tests s t)) 0) (λ e. rw e) (λ e. rw (e, e))

same_reading : (a b : List ℕ) → no_sheet a ≡ no_sheet b → last_numbers a ≡ last_numbers b → last_records a ≡ last_records b → last_vessel a ≡ last_vessel b
    → read_of b ≡ starting_at (start_of b) (read_of a)
same_reading a b frames numbers all vessels =
    let same : read_of a ≡ reading_of (no_sheet b) (last_numbers b) (last_records b) (last_vessel b) (start_of a) =
    reading_is a
    ∙ ap (λ (frameless : Bool). reading_of frameless (last_numbers a) (last_records a) (last_vessel a) (start_of a)) frames
    ∙ ap (λ (v : List ℕ). reading_of (no_sheet b) v (last_records a) (last_vessel a) (start_of a)) numbers
    ∙ ap (λ (l : List (List ℕ)). reading_of (no_sheet b) (last_numbers b) l (last_vessel a) (start_of a)) all
    ∙ ap (λ (vessel : ℕ). reading_of (no_sheet b) (last_numbers b) (last_records b) vessel (start_of a)) vessels in
    reading_is b
    ∙ at_another_start (no_sheet b) (last_numbers b) (last_records b) (last_vessel b) (start_of a) (start_of b)
    ∙ ap (starting_at (start_of b)) (sym same)

-- whatever stands before the last sheet: the same number and position, or the same sheet, mark and form, at its own start
pub other_bytes_before : (file : List ℕ) → no_sheet file ≡ false → (pre : List ℕ)
    → read_of (pre ++ drop (start_of file) file) ≡ starting_at (length pre) (read_of file)
other_bytes_before file ends_in_sheet pre =
    let w = whole file ends_in_sheet in
    let before = take (start_of file) file in
    let s = drop (start_of file) file in
    let same = parts file ends_in_sheet in
    same_reading file (pre ++ s)
    (ends_in_sheet ∙ sym (framed_behind w pre))
    (ap last_numbers (sym same) ∙ numbers_behind w before ∙ sym (numbers_behind w pre))
    (ap last_records (sym same) ∙ records_behind w before ∙ sym (records_behind w pre))
    (ap last_vessel (sym same) ∙ vessel_behind w before ∙ sym (vessel_behind w pre))
    ∙ ap (λ (n : ℕ). starting_at n (read_of file)) (starts_behind w pre)

-- so more bytes before a file put the start of its last sheet so much further on, and do nothing else
pub bytes_before : (file : List ℕ) → no_sheet file ≡ false → (pre : List ℕ)
    → read_of (pre ++ file) ≡ starting_at (length pre + start_of file) (read_of file)
bytes_before file ends_in_sheet pre =
    let before = take (start_of file) file in
    ap (λ (l : List ℕ). read_of (pre ++ l)) (sym (parts file ends_in_sheet))
    ∙ ap read_of (sym (append_assoc pre before (drop (start_of file) file)))
    ∙ other_bytes_before file ends_in_sheet (pre ++ before)
    ∙ ap (λ (n : ℕ). starting_at n (read_of file))
    (length-append pre before ∙ ap (λ (n : ℕ). length pre + n) (length-take-le (start_of file) file (omega arith)))
