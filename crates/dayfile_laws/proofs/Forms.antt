-- The forms: a byte tells a form exactly where it is that form's, a field that a form lacks reads as 0, what isn't lost in a field is held
-- by it, and how their bytes lie. Stands on nothing of the sheet.
use Rattle.std.proofs.Common.{ℕ, zero, suc, ◌+◌, ◌*◌, ◌^◌, ◌<◌, ◌≤◌, ◌≡◌, refl, sym, true, false, not, List, [], ◌++◌, ◌↔◌, arith, eqb-true, eq-eqb, leb-true, eqb, leb, length, take}
use borrow.Author.Tests.{not-false}
use Rattle.measure.proofs.Laws.Tests.{and_right}
use Rattle.spaces.specs.declared.space.Space.{Space}
use Rattle.spaces.proofs.Laws.Cases.{by_test, not_both}
use Rattle.spaces_laws.proofs.Tests.{and_fails}
use Rattle.dayfile.specs.Numbers.{bytes_of, number_of}
use Rattle.dayfile.specs.Fields.{zero_field}
use Rattle.dayfile.specs.Forms.{optional, is_form, form_of, form_told, greatest_in, lost}
use Rattle.dayfile.specs.Record.{record_bytes}
use Rattle.dayfile.specs.Trailer.{sheet_size, vessel_bytes}
use Rattle.dayfile.proofs.Laws.Forms.{every_form}

-- what holds of form 1 and of form 2 holds of every form that is known
pub known_form : (P : ℕ → Type 0) → P 1 → P 2 → (form : ℕ) → is_form form ≡ true → P form
known_form P first second zero known = not_both known refl
known_form P first second (suc zero) known = first
known_form P first second (suc (suc zero)) known = second
known_form P first second (suc (suc (suc form))) known =
    absurd (omega (arith, leb-true (suc (suc (suc form))) 2 (and_right (leb 1 (suc (suc (suc form)))) _ known)))

-- ---- told by a byte

-- the byte of a form tells that form
pub told_again : (form : ℕ) → is_form form ≡ true → form_told (form_of form).tells ≡ form
unfolding form_of form_told
told_again = known_form (λ (form : ℕ). form_told (form_of form).tells ≡ form) refl refl

-- and a byte that tells a form is that form's
pub tells_again : (byte : ℕ) → is_form (form_told byte) ≡ true → (form_of (form_told byte)).tells ≡ byte
unfolding form_of form_told
tells_again byte known =
    by_test (eqb byte 0)
    (λ t. rw t (sym (eqb-true byte 0 t)))
    (λ f.
    by_test (eqb byte 2)
    (λ t. rw (f, t) (sym (eqb-true byte 2 t)))
    (λ g. not_both known (rw (f, g))))

-- so a byte tells a form exactly where it is that form's
pub told_exactly : (form byte : ℕ) → is_form form ≡ true → (form_told byte ≡ form) ↔ ((form_of form).tells ≡ byte)
told_exactly form byte known = (λ told. rw told at (tells_again byte (rw told known)), λ same. rw same at (told_again form known))

-- ---- a field that a form may lack

-- a field that a form lacks reads as 0
pub lacking_reads_0 : (width : ℕ) (bytes : List ℕ) → width ≡ 0 → number_of (take width bytes) ≡ 0
lacking_reads_0 width bytes lacking = rw lacking

-- and fits only 0: it has the range of a zero field
pub lacking_fits_0 : (greatest : ℕ) → optional 0 greatest ≡ zero_field 0
lacking_fits_0 greatest = refl

-- what was read from it isn't lost in it
pub read_not_lost : (width : ℕ) (bytes : List ℕ) → lost width (number_of (take width bytes)) ≡ false
read_not_lost width bytes =
    by_test (eqb width 0)
    (λ t. rw (t, lacking_reads_0 width bytes (eqb-true width 0 t)))
    (λ f. rw f)

-- what isn't lost is 0 where the field is lacking
pub lacking_0 : (width number : ℕ) → lost width number ≡ false → width ≡ 0 → number ≡ 0
lacking_0 width number kept none =
    eqb-true number 0 (not-false _ (and_fails (eqb width 0) (not (eqb number 0)) kept (eq-eqb width 0 none)))

-- and in its range where it was
pub held_in : (width number greatest : ℕ) → lost width number ≡ false → number ≤ greatest → number ≤ greatest_in width greatest
held_in width number greatest kept most =
    by_test (eqb width 0)
    (λ t. rw t (omega (arith, lacking_0 width number kept (eqb-true width 0 t))))
    (λ f. rw f most)

-- a vessel number that isn't lost fits its bytes
pub vessel_fits : (form vessel : ℕ) → lost (form_of form).vessel vessel ≡ false → vessel ≤ 4294967295 → vessel < 256 ^ (form_of form).vessel
vessel_fits form vessel =
    every_form (λ f. lost f.vessel vessel ≡ false → vessel ≤ 4294967295 → vessel < 256 ^ f.vessel)
    (λ kept most. omega (arith, lacking_0 0 vessel kept refl), (λ kept most. omega (arith, most), tt))
    form

-- ---- how their bytes lie

-- "In form 2 a record has 20 bytes", in form 1 16
pub bytes_of_record : (x : Space) → (length (record_bytes (form_of 1) x) ≡ 16) × (length (record_bytes (form_of 2) x) ≡ 20)
unfolding form_of
bytes_of_record x = (refl, refl)

-- "the old 16 and then deck 2, zero 2"
pub old_record_then_deck_and_zero : (x : Space) → record_bytes (form_of 2) x ≡ record_bytes (form_of 1) x ++ (bytes_of 2 x.deck ++ bytes_of 2 0)
unfolding form_of
old_record_then_deck_and_zero x = refl

-- "four bytes of vessel number", none in form 1
pub bytes_of_vessel : (vessel : ℕ) → (vessel_bytes (form_of 1) vessel ≡ []) × (vessel_bytes (form_of 2) vessel ≡ bytes_of 4 vessel)
unfolding form_of
bytes_of_vessel vessel = (refl, refl)

-- "the old trailer, whose zero byte is now 2", 0 in form 1
pub zero_byte_is : ((form_of 1).tells ≡ 0) × ((form_of 2).tells ≡ 2)
unfolding form_of
zero_byte_is = (refl, refl)

-- "the distance is 20 × count + 32", 16 × count + 28 in form 1
pub size_of_1 : (count : ℕ) → sheet_size (form_of 1) count ≡ 16 * count + 28
unfolding form_of
size_of_1 count = refl

pub size_of_2 : (count : ℕ) → sheet_size (form_of 2) count ≡ 20 * count + 32
unfolding form_of
size_of_2 count = refl

-- four bytes hold it, and one byte what tells the form
pub distance_fits : (form count : ℕ) → count ≤ 200 → sheet_size (form_of form) count ≤ 4294967295
distance_fits form count few = every_form (λ f. sheet_size f count ≤ 4294967295) (omega arith) form

pub byte_fits : (form : ℕ) → (form_of form).tells ≤ 255
byte_fits = every_form (λ f. f.tells ≤ 255) (omega arith)
