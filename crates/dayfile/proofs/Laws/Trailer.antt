-- The trailer's numbers in range.
use Rattle.std.proofs.Common.{ℕ, ◌<◌, ◌≤◌, ◌≡◌, true, ◌&&◌, List, eqb-true, le-leb, lit<, get_or}
use Rattle.measure.specs.Ranges.{includes, tonnage_lengths}
use Rattle.measure.proofs.Laws.Tests.{and_left, and_right}
use Rattle.dayfile.specs.Fields.{each, fitting}
use Rattle.dayfile.specs.Forms.{is_form, form_of}
use Rattle.dayfile.specs.Trailer.{form_in, trailer_fields, trailer_numbers, trailer_right, trailer_of, sheet_size}
use Rattle.dayfile.proofs.Laws.Fields.{at_most, at_least}

abbrev leasts : List ℕ
leasts = each (λ f. f.least) trailer_fields

abbrev greatests : List ℕ
greatests = each (λ f. f.greatest) trailer_fields

pub within_fields : (numbers : List ℕ) (i : ℕ) → i < 7 → fitting trailer_fields numbers ≡ true
    → get_or numbers i 0 ≤ get_or greatests i 0
within_fields numbers i h e = at_most leasts greatests numbers i h h e

module _ (numbers : List ℕ) (right : trailer_right numbers ≡ true) where
  told_right : (fitting trailer_fields numbers && is_form (form_in numbers)) ≡ true
  unfolding trailer_right
  told_right = and_left (fitting trailer_fields numbers && is_form (form_in numbers)) _ right

  pub fields_fit : fitting trailer_fields numbers ≡ true
  fields_fit = and_left (fitting trailer_fields numbers) _ told_right

  -- its byte tells a form
  pub tells_form : is_form (form_in numbers) ≡ true
  tells_form = and_right (fitting trailer_fields numbers) _ told_right

  pub distance_is : get_or numbers 0 0 ≡ sheet_size (form_of (form_in numbers)) (get_or numbers 1 0)
  unfolding trailer_right
  distance_is = eqb-true _ _ (and_right (fitting trailer_fields numbers && is_form (form_in numbers)) _ right)

-- the tonnage length of a right trailer at the front of some bytes is one that a sheet may have
pub tonnage_length_fits : (bytes : List ℕ) → trailer_right (trailer_numbers bytes) ≡ true
    → includes tonnage_lengths (trailer_of (trailer_numbers bytes)).tonnage_length.0 ≡ true
unfolding includes
tonnage_length_fits bytes right =
    let v = trailer_numbers bytes in
    let fits = fields_fit v right in
    let low : 100 ≤ get_or v 4 0 = at_least leasts greatests v 4 (lit< tt) (lit< tt) (lit< tt) fits in
    let high : get_or v 4 0 ≤ 150000 = at_most leasts greatests v 4 (lit< tt) (lit< tt) fits in
    rw (le-leb 100 (get_or v 4 0) low, le-leb (get_or v 4 0) 150000 high)

pub within_trailer : (numbers : List ℕ) (i : ℕ) → i < 7 → trailer_right numbers ≡ true
    → get_or numbers i 0 ≤ get_or greatests i 0
within_trailer numbers i h right = within_fields numbers i h (fields_fit numbers right)
