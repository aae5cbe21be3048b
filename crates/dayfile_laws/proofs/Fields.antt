-- A row of fields and its numbers, both ways, once over any fields. Stands on Numbers.
use Rattle.std.proofs.Common.{ℕ, ◌^◌, ◌≤◌, ◌<◌, ◌≡◌, refl, subst, true, ◌&&◌, List, [], ◌∷◌, ◌++◌, append_assoc, arith, leb-true, le-leb, leb, length, take, drop, length-drop, length-take-le, take_at, drop_at, take-add}
use Rattle.measure.proofs.Laws.Tests.{and_left, and_right}
use Rattle.measure.proofs.Laws.Volumes.{at_most_take, at_most_drop}
use Rattle.dayfile.specs.Numbers.{Bytes, bytes_of, number_of}
use Rattle.dayfile.specs.Fields.{Field, widths, encoded, decoded, size, fitting}
use Rattle.dayfile.proofs.Laws.Numbers.{length_bytes}
use Rattle.dayfile_laws.proofs.Numbers.{number_of_bytes, bytes_of_number}

-- every number fits the width of its field, and there is one for each
abbrev pub FitWidths : List ℕ → List ℕ → Type 0
FitWidths [] [] = Unit
FitWidths [] (n ∷ ns) = ⊥
FitWidths (w ∷ ws) [] = ⊥
FitWidths (w ∷ ws) (n ∷ ns) = (n < 256 ^ w) × FitWidths ws ns

-- numbers that fit are read back from their bytes, whatever follows them
pub decoded_encoded : (ws ns rest : List ℕ) → FitWidths ws ns → decoded ws (encoded ws ns ++ rest) ≡ ns
decoded_encoded [] [] rest fit = refl
decoded_encoded [] (n ∷ ns) rest fit = absurd fit
decoded_encoded (w ∷ ws) [] rest fit = absurd fit
decoded_encoded (w ∷ ws) (n ∷ ns) rest fit =
    let others = encoded ws ns ++ rest in
    rw (
      append_assoc,
      take_at (bytes_of w n) others w (length_bytes w n),
      drop_at (bytes_of w n) others w (length_bytes w n),
      number_of_bytes w n fit.0,
      decoded_encoded ws ns rest fit.1,
    )

-- and the bytes of numbers that were read are those they were read from
pub encoded_decoded : (ws bytes : List ℕ) → Bytes bytes → size ws ≤ length bytes → encoded ws (decoded ws bytes) ≡ take (size ws) bytes
encoded_decoded [] bytes all long = refl
encoded_decoded (w ∷ ws) bytes all long =
    let first = take w bytes in
    let len : length first ≡ w = length-take-le w bytes (omega arith) in
    let same : bytes_of w (number_of first) ≡ first =
    subst (λ (n : ℕ). bytes_of n (number_of first) ≡ first) len (bytes_of_number (at_most_take w all)) in
    let left : size ws ≤ length (drop w bytes) = rw length-drop (omega arith) in
    rw (same, encoded_decoded ws (drop w bytes) (at_most_drop w all) left, take-add w (size ws) bytes)

-- ---- ranges

-- the greatest number of each field fits its width
abbrev pub RangesFit : List Field → Type 0
RangesFit [] = Unit
RangesFit (f ∷ fs) = (f.greatest < 256 ^ f.width) × RangesFit fs

-- so numbers in their ranges do
pub ranges_fit_widths : (fields : List Field) (numbers : List ℕ) → RangesFit fields → length numbers ≡ length fields → fitting fields numbers ≡ true
    → FitWidths (widths fields) numbers
ranges_fit_widths [] [] fit len e = tt
ranges_fit_widths [] (n ∷ ns) fit len e = absurd (omega arith)
ranges_fit_widths (f ∷ fs) [] fit len e = absurd (omega arith)
ranges_fit_widths (f ∷ fs) (n ∷ ns) fit len e =
    let in_range = leb f.least n && leb n f.greatest in
    let most : n ≤ f.greatest = leb-true _ _ (and_right (leb f.least n) _ (and_left in_range _ e)) in
    (omega (arith, fit.0), ranges_fit_widths fs ns fit.1 (omega arith) (and_right in_range _ e))

-- numbers from the least to the greatest of their fields, said as a fact
abbrev pub InFields : List Field → List ℕ → Type 0
InFields [] numbers = Unit
InFields (f ∷ fs) [] = Unit
InFields (f ∷ fs) (n ∷ ns) = (f.least ≤ n) × (n ≤ f.greatest) × InFields fs ns

pub fitting_of : (fields : List Field) (numbers : List ℕ) → InFields fields numbers → fitting fields numbers ≡ true
fitting_of [] numbers facts = refl
fitting_of (f ∷ fs) [] facts = refl
fitting_of (f ∷ fs) (n ∷ ns) facts =
    rw (le-leb f.least n facts.0, le-leb n f.greatest facts.1) (fitting_of fs ns facts.2)
