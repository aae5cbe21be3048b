-- "Trailer: distance from the end back to the first record 4 (16 × count + 28), count 2, justified 1, zero 1, tonnage length 4, gross 8,
-- net 8"; and before it the vessel number, in a form that has it (T-05 of document 02).
use Rattle.std.specs.Prelude.{ℕ, ◌+◌, ◌*◌, ◌-◌, Bool, ◌&&◌, List, [], ◌∷◌, eqb, length, take, drop, get_or}
use Rattle.measure.specs.Volumes.{hundredths}
use Rattle.dayfile.specs.Fields.{Field, field, widths, encoded, decoded, size, fitting}
use Rattle.dayfile.specs.Numbers.{bytes_of, number_of}
use Rattle.dayfile.specs.Forms.{is_form, form_of, form_told}
use Rattle.dayfile.specs.Record.{record_size}
use Rattle.dayfile.specs.declared.forms.Form.{Form}
use Rattle.dayfile.specs.declared.trailer.Trailer.{Trailer}

abbrev pub trailer_fields : List Field
trailer_fields =
    -- distance, count, justified
    field 4 0 4294967295
    ∷ field 2 0 200
    ∷ field 1 0 1
    -- the byte that tells the form
    ∷ field 1 0 255
    -- tonnage length, gross, net
    ∷ field 4 100 150000
    ∷ field 8 0 18446744073709551615
    ∷ field 8 0 18446744073709551615
    ∷ []

abbrev pub trailer_size : ℕ
trailer_size = size (widths trailer_fields)

-- what stands behind the records: "four bytes of vessel number", in a form that has it, and the trailer
abbrev pub end_size : Form → ℕ
end_size f = f.vessel + trailer_size

-- the bytes of a sheet of so many spaces: "16 × count + 28" in form 1, "20 × count + 32" in form 2
abbrev pub sheet_size : Form → ℕ → ℕ
sheet_size f count = record_size f * count + end_size f

-- ---- written

abbrev pub numbers_of_trailer : Trailer → List ℕ
numbers_of_trailer t =
    let f = form_of t.form in
    sheet_size f t.count ∷ t.count ∷ t.justified ∷ f.tells ∷ t.tonnage_length.0 ∷ t.gross ∷ t.net ∷ []

-- the vessel number, where the form has it
abbrev pub vessel_bytes : Form → ℕ → List ℕ
vessel_bytes f vessel = bytes_of f.vessel vessel

abbrev pub trailer_bytes : Trailer → List ℕ
trailer_bytes t = encoded (widths trailer_fields) (numbers_of_trailer t)

-- ---- read

abbrev pub trailer_numbers : List ℕ → List ℕ
trailer_numbers bytes = decoded (widths trailer_fields) bytes

-- the number of the form that a trailer tells, 0 where it tells none
abbrev pub form_in : List ℕ → ℕ
form_in numbers = form_told (get_or numbers 3 0)

-- "count over 200; distance, zero byte, mark or tonnage length wrong" is not so: the zero byte tells a form, and the distance is that form's
unfoldable pub trailer_right : List ℕ → Bool
trailer_right numbers =
    fitting trailer_fields numbers
    && is_form (form_in numbers)
    && eqb (get_or numbers 0 0) (sheet_size (form_of (form_in numbers)) (get_or numbers 1 0))

abbrev pub trailer_of : List ℕ → Trailer
trailer_of numbers =
    record {
      count = get_or numbers 1 0;
      justified = get_or numbers 2 0;
      form = form_in numbers;
      tonnage_length = hundredths (get_or numbers 4 0);
      gross = get_or numbers 5 0;
      net = get_or numbers 6 0;
    }

-- the vessel number before the trailer at the end of a file; 0 in a form that lacks it
abbrev pub vessel_in : Form → List ℕ → ℕ
vessel_in f file = number_of (take f.vessel (drop (length file - end_size f) file))
