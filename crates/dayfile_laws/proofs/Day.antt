-- A day's file: sheets written one after another, in either form, are all found again, the last first, each with its start. Stands on
-- WrittenRead, ReadWritten.
use Rattle.std.proofs.Common.{ℕ, zero, suc, ◌+◌, ◌≤◌, ◌≡◌, refl, sym, ap, ◌∙◌, subst, List, [], ◌∷◌, ◌++◌, append_assoc, append-nil, reverse, arith, eq-eqb, ne_eqb, eqb-true, eqb, length, take, length-append, length-take-le, take_all}
use mathlib.Core.List.{reverse_aux, reverse_aux-eq}
use borrow.Author.Tests.{eqb-false}
use lib.ListN.{length-reverse}
use lib.Seq.{take-append_seam}
use Rattle.spaces.proofs.Laws.Cases.{by_test}
use Rattle.sheet.specs.declared.sheet.Sheet.{Sheet}
use Rattle.dayfile.specs.Forms.{form_of}
use Rattle.dayfile.specs.Trailer.{sheet_size}
use Rattle.dayfile.specs.Writing.{sheet_bytes}
use Rattle.dayfile.specs.Reading.{accepted_reading, read_of}
use Rattle.dayfile.specs.Day.{SheetWritten, day_bytes, sheets_in, Day, none, last}
use Rattle.dayfile.specs.declared.reading.Reading.{Reading}
use Rattle.dayfile_laws.specs.Day.{Writable, AllWritable, as_read, readings}
use Rattle.dayfile_laws.proofs.WrittenRead.{length_bytes, written_then_read}
use Rattle.dayfile_laws.proofs.ReadWritten.{start_before_end}

-- ---- the readings of a file

-- every file has some: each reading leaves a shorter part before its start
pub every_file : (n : ℕ) (file : List ℕ) → length file ≤ n → Day file (sheets_in n file)
every_file zero file h = none {file = file} (λ read. omega (arith, start_before_end file read))
every_file (suc n) file h =
    by_test (eqb (read_of file).number 0)
    (λ t.
    let read = eqb-true _ 0 t in
    let ahead = take (read_of file).start file in
    let shorter : length ahead ≤ n =
    omega (arith, start_before_end file read, length-take-le (read_of file).start file (omega (arith, start_before_end file read))) in
    rw t (last read (every_file n ahead shorter)))
    (λ f. rw f (none (eqb-false _ 0 f)))

-- of which `sheets_in` gives the first n
pub readings_determined : {file : List ℕ} {all : List Reading} → Day file all → (n : ℕ) → sheets_in n file ≡ take n all
readings_determined day zero = refl
readings_determined (none refused) (suc n) = rw (ne_eqb _ 0 refused)
readings_determined {file} (last read earlier) (suc n) =
    rw (eq-eqb (read_of file).number 0 read, readings_determined {file = take (read_of file).start file} earlier n)

-- and it has no others
pub only_these : {file : List ℕ} {all others : List Reading} → Day file all → Day file others → all ≡ others
only_these {file} {all} {others} day other =
    let n = length all + length others in
    sym (take_all n all (omega arith))
    ∙ sym (readings_determined day n)
    ∙ readings_determined other n
    ∙ take_all n others (omega arith)

-- ---- written one after another

-- one sheet behind a file is its last
one_more : {file : List ℕ} {earlier : List Reading} (s : Sheet) (justified form : ℕ) → Writable s justified form → Day file earlier
    → Day (file ++ sheet_bytes s justified form) (accepted_reading (as_read s) justified (length file) form ∷ earlier)
one_more {file} {earlier} s justified form w day =
    let whole = file ++ sheet_bytes s justified form in
    let same = written_then_read s justified form w file in
    let start : (read_of whole).start ≡ length file = ap (λ (r : Reading). r.start) same in
    let ahead : take (read_of whole).start whole ≡ file = ap (λ (n : ℕ). take n whole) start ∙ take-append_seam file (sheet_bytes s justified form) in
    subst (λ (r : Reading). Day whole (r ∷ earlier)) same
    (last (ap (λ (r : Reading). r.number) same) (subst (λ (l : List ℕ). Day l earlier) (sym ahead) day))

found_behind : {file : List ℕ} {earlier : List Reading} (day : List SheetWritten) → AllWritable day → Day file earlier
    → Day (file ++ day_bytes day) (reverse_aux (readings (length file) day) earlier)
found_behind {file} [] w found = rw append-nil found
found_behind {file} {earlier} (first ∷ later) w found =
    let s = first.sheet in
    let mark = first.justified in
    let form = first.form in
    let bytes = sheet_bytes s mark form in
    let r = accepted_reading (as_read s) mark (length file) form in
    let end : length (file ++ bytes) ≡ length file + sheet_size (form_of form) s.count =
    length-append file bytes ∙ ap (λ (n : ℕ). length file + n) (length_bytes s mark form w.0) in
    subst (λ (n : ℕ). Day (file ++ (bytes ++ day_bytes later)) (reverse_aux (readings n later) (r ∷ earlier))) end
    (subst (λ (l : List ℕ). Day l (reverse_aux (readings (length (file ++ bytes)) later) (r ∷ earlier))) (append_assoc file bytes (day_bytes later))
    (found_behind {file = file ++ bytes} later w.1 (one_more s mark form w.0 found)))

-- sheets behind a file are found before those of the file, the last first
pub sheets_behind : {file : List ℕ} {earlier : List Reading} (day : List SheetWritten) → AllWritable day → Day file earlier
    → Day (file ++ day_bytes day) (reverse (readings (length file) day) ++ earlier)
sheets_behind {file} {earlier} day w found =
    subst (Day (file ++ day_bytes day)) (reverse_aux-eq (readings (length file) day) earlier) (found_behind day w found)

-- so a day's sheets are all found again, the last first, and no others
pub day_found : (day : List SheetWritten) → AllWritable day → Day (day_bytes day) (reverse (readings 0 day))
day_found day w = found_behind day w (every_file 0 [] (omega arith))

length_readings : (start : ℕ) (day : List SheetWritten) → length (readings start day) ≡ length day
length_readings start [] = refl
length_readings start (first ∷ later) = ap suc (length_readings (start + sheet_size (form_of first.form) first.sheet.count) later)

-- and reading gives exactly theirs, where it may go back so far
pub day_read : (day : List SheetWritten) → AllWritable day → (n : ℕ) → length day ≤ n → sheets_in n (day_bytes day) ≡ reverse (readings 0 day)
day_read day w n h =
    let all = readings 0 day in
    readings_determined (day_found day w) n
    ∙ take_all n (reverse all) (omega (arith, length-reverse all, length_readings 0 day))
