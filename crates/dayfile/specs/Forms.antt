-- The forms of a file (T-05 of document 02), as data: the widths of the fields in which forms differ, and the byte of the trailer that
-- tells a form. A field that a form lacks has the width 0: it reads as 0, and holds only 0.
use Rattle.std.specs.Prelude.{ℕ, suc, ◌-◌, Bool, cond, not, ◌&&◌, List, [], ◌∷◌, eqb, leb, length, get_or}
use Rattle.dayfile.specs.Fields.{Field, field}
use Rattle.dayfile.specs.declared.forms.Form.{Form}

-- document 01's: no deck, no second zero field and no vessel number, and the trailer has a zero byte
abbrev pub form1 : Form
form1 = record { deck = 0; zero = 0; vessel = 0; tells = 0 }

-- "In form 2 a record has 20 bytes, the old 16 and then deck 2, zero 2; four bytes of vessel number stand between the last record and the
-- old trailer, whose zero byte is now 2"
abbrev pub form2 : Form
form2 = record { deck = 2; zero = 2; vessel = 4; tells = 2 }

abbrev pub forms : List Form
forms = form1 ∷ form2 ∷ []

-- ---- by their numbers, from 1

abbrev pub is_form : ℕ → Bool
is_form number = leb 1 number && leb number (length forms)

-- the form of a number; that of 1 where a number is none
unfoldable pub form_of : ℕ → Form
form_of number = get_or forms (number - 1) form1

-- the number of the form that a byte tells, among some forms of which the first has this number; 0 where none does
abbrev pub told_from : ℕ → List Form → ℕ → ℕ
told_from number [] byte = 0
told_from number (f ∷ others) byte = cond (eqb byte f.tells) number (told_from (suc number) others byte)

unfoldable pub form_told : ℕ → ℕ
form_told byte = told_from 1 forms byte

-- ---- a field that a form may lack

-- its greatest number: of one that is lacking 0
abbrev pub greatest_in : (width greatest : ℕ) → ℕ
greatest_in width greatest = cond (eqb width 0) 0 greatest

abbrev pub optional : (width greatest : ℕ) → Field
optional width greatest = field width 0 (greatest_in width greatest)

-- a number is lost where its field is lacking, unless it is 0
abbrev pub lost : (width number : ℕ) → Bool
lost width number = eqb width 0 && not (eqb number 0)
