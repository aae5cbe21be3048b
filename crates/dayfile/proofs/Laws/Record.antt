-- Records in any form: their numbers in range, one more written, one more read.
use Rattle.std.proofs.Common.{ℕ, suc, ◌+◌, ◌*◌, ◌-◌, ◌<◌, ◌≤◌, ◌≡◌, refl, sym, ap, ◌∙◌, true, List, [], ◌∷◌, ◌++◌, mul-zero, mul-suc, mul-le-mul_left, add-one, arith, length, take, drop, get_or, set, length-append, drop-cons, drop-drop, take-suc-set}
use lib.Seq.{sets, append_snoc}
use Rattle.spaces.specs.declared.space.Space.{Space}
use Rattle.dayfile.specs.Fields.{each, widths, fitting}
use Rattle.dayfile.specs.Record.{record_fields, record_size, numbers_of, record_bytes, records, record_numbers, records_in}
use Rattle.dayfile.specs.Handed.{read_as, each_read_as}
use Rattle.dayfile.specs.declared.forms.Form.{Form}
use Rattle.dayfile.proofs.Laws.Stores.{stored_behind}
use Rattle.dayfile.proofs.Laws.Fields.{at_most, length_encoded}

pub within_record : (f : Form) (numbers : List ℕ) (i : ℕ) → i < 9 → fitting (record_fields f) numbers ≡ true
    → get_or numbers i 0 ≤ get_or (each (λ x. x.greatest) (record_fields f)) i 0
within_record f numbers i h e = at_most (each (λ x. x.least) (record_fields f)) (each (λ x. x.greatest) (record_fields f)) numbers i h h e

-- a record more: its bytes behind those of i records are within those of n
pub one_more_record : (size i : ℕ) → size * i + size ≡ size * (i + 1)
one_more_record size i = omega (arith, mul-suc size i)

pub record_within : (size i n : ℕ) → i < n → size * i + size ≤ size * n
record_within size i n h = omega (arith, one_more_record size i, mul-le-mul_left size h)

pub length_record : (f : Form) (x : Space) → length (record_bytes f x) ≡ record_size f
length_record f x = length_encoded (widths (record_fields f)) (numbers_of x) refl

pub length_records : (f : Form) (xs : List Space) → length (records f xs) ≡ record_size f * length xs
length_records f [] = sym (mul-zero (record_size f))
length_records f (x ∷ xs) =
    length-append (record_bytes f x) (records f xs)
    ∙ omega (arith, length_record f x, length_records f xs, one_more_record (record_size f) (length xs))

-- a record stored leaves one record less to store
pub record_stored : (f : Form) (l : List ℕ) (xs : List Space) (at i : ℕ) (d : Space) → i < length xs
    → sets l at (records f (drop i xs)) ≡ sets (sets l at (record_bytes f (get_or xs i d))) (at + record_size f) (records f (drop (i + 1) xs))
record_stored f l xs at i d h =
    let b = record_bytes f (get_or xs i d) in
    rw (add-one, drop-cons xs i d h)
    (stored_behind l b (records f (drop (suc i) xs)) at
    ∙ ap (λ (n : ℕ). sets (sets l at b) (at + n) (records f (drop (suc i) xs))) (length_record f (get_or xs i d)))

-- a record read leaves one record less to read
pub record_read : (f : Form) (spaces : List Space) (bytes : List ℕ) (at n i : ℕ) → i < n → i < length spaces
    → take (i + 1) (set spaces i (read_as f (record_numbers f (drop at bytes)))) ++ each_read_as f (records_in f (n - (i + 1)) (drop (at + record_size f) bytes))
    ≡ take i spaces ++ each_read_as f (records_in f (n - i) (drop at bytes))
record_read f spaces bytes at n i h k =
    let x = read_as f (record_numbers f (drop at bytes)) in
    let e : n - i ≡ suc (n - (i + 1)) = omega arith in
    rw (e, add-one, take-suc-set spaces i x k, drop-drop (record_size f) at bytes)
    (append_snoc (take i spaces) x (each_read_as f (records_in f (n - suc i) (drop (at + record_size f) bytes))))
