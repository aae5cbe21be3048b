-- Records and trailers, both ways: what fits its fields is read back, and what was read fitting is written back. Stands on Fields,
-- Forms, Faults.
use Rattle.std.proofs.Common.{ℕ, zero, suc, ◌+◌, ◌*◌, ◌≤◌, ◌≡◌, refl, sym, ap, ◌∙◌, true, false, not, List, [], ◌∷◌, ◌++◌, map, append_assoc, append-nil, mul-zero, mul-suc, arith, lit<, length, take, drop, get_or, length-drop, drop_at, take-add}
use mathlib.Core.List.Memᴰ
use borrow.Author.Tests.{not-false}
use Rattle.measure.specs.declared.units.Hundredths.{Hundredths}
use Rattle.measure.proofs.Laws.Volumes.{at_most_drop}
use Rattle.measure.specs.Volumes.{hundredths}
use Rattle.spaces.specs.Space.{recorded, all_recorded}
use Rattle.spaces.specs.declared.space.Space.{Space}
use Rattle.spaces.proofs.Laws.Cases.{or_fails}
use Rattle.spaces_laws.proofs.Tests.{or_fails_of}
use Rattle.spaces_laws.proofs.Lists.{◌∈◌}
use Rattle.sheet.specs.declared.sheet.Sheet.{Sheet}
use Rattle.dayfile.specs.Numbers.{Bytes}
use Rattle.dayfile.specs.Fields.{widths, encoded, fitting}
use Rattle.dayfile.specs.Forms.{form_of}
use Rattle.dayfile.specs.Record.{record_fields, record_size, numbers_of, SameRecord, SameSpaces, none as no_spaces, next, record_bytes, records, record_numbers, space_of, records_in, spaces_of}
use Rattle.dayfile.specs.Trailer.{trailer_fields, trailer_size, numbers_of_trailer, trailer_bytes, trailer_numbers, trailer_right, trailer_of}
use Rattle.dayfile.specs.Writing.{trailer_for, loses_deck}
use Rattle.dayfile.specs.Reading.{first_faulty}
use Rattle.dayfile.specs.declared.forms.Form.{Form}
use Rattle.dayfile.proofs.Laws.Forms.{every_form}
use Rattle.dayfile.proofs.Laws.Record.{within_record, length_record}
use Rattle.dayfile.proofs.Laws.Trailer.{tells_form, distance_is}
use Rattle.dayfile_laws.proofs.Forms.{tells_again, read_not_lost}
use Rattle.dayfile_laws.proofs.Faults.{none_first}
use Rattle.dayfile_laws.proofs.Fields.{RangesFit, ranges_fit_widths, decoded_encoded, encoded_decoded}

-- every field is wide enough for its range
record_wide : (form : ℕ) → RangesFit (record_fields (form_of form))
record_wide = every_form (λ f. RangesFit (record_fields f)) (omega arith)

trailer_wide : RangesFit trailer_fields
trailer_wide = omega arith

-- ---- written, then read

-- a space whose numbers are in the ranges of a record
abbrev pub Fits : ℕ → Space → Type 0
Fits form x = fitting (record_fields (form_of form)) (numbers_of x) ≡ true

-- its numbers are read back from its bytes
record_read : (form : ℕ) (x : Space) (rest : List ℕ) → Fits form x → record_numbers (form_of form) (record_bytes (form_of form) x ++ rest) ≡ numbers_of x
record_read form x rest fit =
    let f = form_of form in
    decoded_encoded (widths (record_fields f)) (numbers_of x) rest (ranges_fit_widths (record_fields f) (numbers_of x) (record_wide form) refl fit)

-- so are those of all records, whatever follows them
pub records_read : (form : ℕ) (xs : List Space) (rest : List ℕ) → ((x : Space) → x ∈ xs → Fits form x)
    → records_in (form_of form) (length xs) (records (form_of form) xs ++ rest) ≡ map numbers_of xs
records_read form [] rest fit = refl
records_read form (x ∷ xs) rest fit =
    let f = form_of form in
    let others = records f xs ++ rest in
    let numbers = record_read form x others (fit x (Memᴰ.head refl)) in
    let front : (record_bytes f x ++ records f xs) ++ rest ≡ record_bytes f x ++ others = append_assoc (record_bytes f x) (records f xs) rest in
    ap (records_in f (suc (length xs))) front
    ∙ ap (λ (first : List ℕ). first ∷ records_in f (length xs) (drop (record_size f) (record_bytes f x ++ others))) numbers
    ∙ ap (λ (bytes : List ℕ). numbers_of x ∷ records_in f (length xs) bytes) (drop_at (record_bytes f x) others (record_size f) (length_record f x))
    ∙ ap (λ (later : List (List ℕ)). numbers_of x ∷ later) (records_read form xs rest (λ y m. fit y (Memᴰ.tail m)))

-- the spaces of those numbers are the same but for their m
pub spaces_of_numbers : (xs : List Space) → spaces_of (map numbers_of xs) ≡ all_recorded xs
spaces_of_numbers [] = refl
spaces_of_numbers (x ∷ xs) = ap (λ (l : List Space). recorded x ∷ l) (spaces_of_numbers xs)

-- "when all that their records hold is the same": exactly then the numbers of two spaces are the same
pub same_numbers : {x y : Space} → SameRecord x y → numbers_of x ≡ numbers_of y
same_numbers {x} {y} same = rw (same.id, same.enclosing_id, same.kind, same.standing, same.tonnage, same.length, same.deck)

pub same_record : {x y : Space} → numbers_of x ≡ numbers_of y → SameRecord x y
same_record {x} {y} same =
    let at : (i : ℕ) → get_or (numbers_of x) i 0 ≡ get_or (numbers_of y) i 0 = λ i. ap (λ (numbers : List ℕ). get_or numbers i 0) same in
    record { id = at 0; enclosing_id = at 1; kind = at 2; standing = at 3; tonnage = at 5; length = ap hundredths (at 6); deck = at 7 }

-- and so they are of a space and of what its record gives back
pub recorded_same : (xs : List Space) → SameSpaces xs (all_recorded xs)
recorded_same [] = no_spaces
recorded_same (x ∷ xs) = next (same_record refl) (recorded_same xs)

-- the trailer's likewise
pub trailer_read : (s : Sheet) (justified form : ℕ) → fitting trailer_fields (numbers_of_trailer (trailer_for s justified form)) ≡ true
    → trailer_numbers (trailer_bytes (trailer_for s justified form)) ≡ numbers_of_trailer (trailer_for s justified form)
trailer_read s justified form fit =
    let numbers = numbers_of_trailer (trailer_for s justified form) in
    ap trailer_numbers (sym (append-nil (encoded (widths trailer_fields) numbers)))
    ∙ decoded_encoded (widths trailer_fields) numbers [] (ranges_fit_widths trailer_fields numbers trailer_wide refl fit)

-- ---- read, then written

-- numbers of a record that fit have 0 in the zero fields, so they are those of its space
record_written : (f : Form) (bytes : List ℕ) → Bytes bytes → record_size f ≤ length bytes → fitting (record_fields f) (record_numbers f bytes) ≡ true
    → record_bytes f (space_of (record_numbers f bytes)) ≡ take (record_size f) bytes
record_written f bytes all long fit =
    let v = record_numbers f bytes in
    let zero_field : get_or v 4 0 ≡ 0 = omega (arith, within_record f v 4 (lit< tt) fit) in
    let second-zero-field : get_or v 8 0 ≡ 0 = omega (arith, within_record f v 8 (lit< tt) fit) in
    let same : numbers_of (space_of v) ≡ v = rw (zero_field, second-zero-field) in
    ap (encoded (widths (record_fields f))) same ∙ encoded_decoded (widths (record_fields f)) bytes all long

-- so the bytes of records none of which is faulty are those they were read from
pub records_written : (f : Form) (L : Hundredths) (before : List Space) (n : ℕ) (bytes : List ℕ) → Bytes bytes → record_size f * n ≤ length bytes
    → first_faulty f L before (records_in f n bytes) ≡ 0 → records f (spaces_of (records_in f n bytes)) ≡ take (record_size f * n) bytes
records_written f L before zero bytes all long none = sym (ap (λ (k : ℕ). take k bytes) (mul-zero (record_size f)))
records_written f L before (suc n) bytes all long none =
    let size = record_size f in
    let v = record_numbers f bytes in
    let later = drop size bytes in
    let (sound, none-later) = none_first f L before v (records_in f n later) none in
    let fit : fitting (record_fields f) v ≡ true = not-false _ (or_fails (not (fitting (record_fields f) v)) _ sound).0 in
    let more : size + size * n ≡ size * suc n = omega (arith, mul-suc size n) in
    let others =
    records_written f L (before ++ (space_of v ∷ [])) n later (at_most_drop size all) (rw length-drop (omega (arith, more))) none-later in
    ap (λ (b : List ℕ). b ++ records f (spaces_of (records_in f n later))) (record_written f bytes all (omega (arith, more)) fit)
    ∙ ap (λ (b : List ℕ). take size bytes ++ b) others
    ∙ sym (take-add size (size * n) bytes)
    ∙ ap (λ (k : ℕ). take k bytes) more

-- no deck of theirs is lost in the form they were read in
pub decks_kept : (f : Form) (n : ℕ) (bytes : List ℕ) → loses_deck f (spaces_of (records_in f n bytes)) ≡ false
decks_kept f zero bytes = refl
decks_kept f (suc n) bytes =
    let behind = drop 4 (drop 4 (drop 2 (drop 1 (drop 1 (drop 2 (drop 2 bytes)))))) in
    or_fails_of _ _ (read_not_lost f.deck behind) (decks_kept f n (drop (record_size f) bytes))

-- and those of a right trailer have its distance and its byte too
pub trailer_written : (bytes : List ℕ) → Bytes bytes → trailer_size ≤ length bytes → trailer_right (trailer_numbers bytes) ≡ true
    → trailer_bytes (trailer_of (trailer_numbers bytes)) ≡ take trailer_size bytes
trailer_written bytes all long right =
    let v = trailer_numbers bytes in
    let same : numbers_of_trailer (trailer_of v) ≡ v = rw (tells_again (get_or v 3 0) (tells_form v right), ← distance_is v right) in
    ap (encoded (widths trailer_fields)) same ∙ encoded_decoded (widths trailer_fields) bytes all long
