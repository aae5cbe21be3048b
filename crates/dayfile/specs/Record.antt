-- "Record: id 2, enclosing id 2 (0 for U, B, S, H), kind 1, standing 1, zero 2, tonnage 4 .., length 4"; "and then deck 2, zero 2" in form
-- 2 (T-05 of document 02). Said of any form.
use Rattle.std.specs.Prelude.{ℕ, zero, suc, ◌≡◌, List, [], ◌∷◌, ◌++◌, drop, get_or}
use Rattle.measure.specs.Volumes.{hundredths}
use Rattle.spaces.specs.declared.space.Space.{Space}
use Rattle.standard.specs.Standings.{greatest_standing}
use Rattle.dayfile.specs.Fields.{Field, field, zero_field, widths, encoded, decoded, size}
use Rattle.dayfile.specs.Forms.{optional}
use Rattle.dayfile.specs.declared.forms.Form.{Form}

abbrev pub record_fields : Form → List Field
record_fields f =
    -- id, enclosing id, kind, standing
    field 2 1 9999
    ∷ field 2 0 65535
    ∷ field 1 1 5
    ∷ field 1 0 greatest_standing
    ∷ zero_field 2
    -- tonnage, "at most 100,000,000", and length
    ∷ field 4 0 100000000
    ∷ field 4 1 150000
    -- deck and a second zero field, in a form that has them
    ∷ optional f.deck 99
    ∷ zero_field f.zero
    ∷ []

-- "16-byte" in form 1, "20 bytes" in form 2
abbrev pub record_size : Form → ℕ
record_size f = size (widths (record_fields f))

-- ---- written

-- what records hold of a space: all but its m; its deck in a form that has it
abbrev pub numbers_of : Space → List ℕ
numbers_of x = x.id ∷ x.within ∷ x.kind ∷ x.standing ∷ 0 ∷ x.tonnage ∷ x.length.0 ∷ x.deck ∷ 0 ∷ []

-- "spaces are the same when all that their records hold is the same" (T-01), number by number: exactly where `numbers_of` gives the same
-- (dayfile_laws, Records)
pub record SameRecord (x y : Space) : Type 0 where
  pub id : x.id ≡ y.id
  pub enclosing_id : x.within ≡ y.within
  pub kind : x.kind ≡ y.kind
  pub standing : x.standing ≡ y.standing
  pub tonnage : x.tonnage ≡ y.tonnage
  pub length : x.length ≡ y.length
  pub deck : x.deck ≡ y.deck

-- "the same spaces, in the same order"
pub data SameSpaces : List Space → List Space → Type 0 where
  none : SameSpaces [] []
  next : {x y : Space} {xs ys : List Space} → SameRecord x y → SameSpaces xs ys → SameSpaces (x ∷ xs) (y ∷ ys)

abbrev pub record_bytes : Form → Space → List ℕ
record_bytes f x = encoded (widths (record_fields f)) (numbers_of x)

-- "one .. record per standing space in order of entry"
abbrev pub records : Form → List Space → List ℕ
records f [] = []
records f (x ∷ xs) = record_bytes f x ++ records f xs

-- ---- read

abbrev pub record_numbers : Form → List ℕ → List ℕ
record_numbers f bytes = decoded (widths (record_fields f)) bytes

-- the space of a record's numbers: it has no m
abbrev pub space_of : List ℕ → Space
space_of numbers =
    record {
      id = get_or numbers 0 0;
      within = get_or numbers 1 0;
      kind = get_or numbers 2 0;
      standing = get_or numbers 3 0;
      m = 0;
      deck = get_or numbers 7 0;
      tonnage = get_or numbers 5 0;
      length = hundredths (get_or numbers 6 0);
    }

-- the numbers of the first n records of some bytes
abbrev pub records_in : Form → ℕ → List ℕ → List (List ℕ)
records_in f zero bytes = []
records_in f (suc n) bytes = record_numbers f bytes ∷ records_in f n (drop (record_size f) bytes)

abbrev pub spaces_of : List (List ℕ) → List Space
spaces_of [] = []
spaces_of (numbers ∷ rest) = space_of numbers ∷ spaces_of rest
