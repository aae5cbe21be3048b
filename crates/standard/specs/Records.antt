-- Recorded spaces judged one after another, as a file gives them back: "It checks records in file order as entries with the
-- recorded tonnage and length" ("The file").
use Rattle.std.specs.Prelude.{ℕ, ◌+◌, Bool, cond, not, ◌&&◌, ◌||◌, List, [], ◌∷◌, ◌++◌, eqb, ltb, length}
use Rattle.measure.specs.Kinds.{kind_of}
use Rattle.measure.specs.Ranges.{includes, lengths}
use Rattle.measure.specs.Refusals.{first_of}
use Rattle.measure.specs.declared.units.Hundredths.{Hundredths}
use Rattle.spaces.specs.Space.{is_room}
use Rattle.standard.specs.Rules.{entry_tests}
use Rattle.spaces.specs.declared.space.Space.{Space}
use Rattle.standard.specs.declared.records.RefusedRecord.{RefusedRecord}

-- a record that no entry could have made: a tonnage over 100,000,000, a length or deck outside its range, or an enclosing id where
-- there may be none. (Its id, kind and standing are judged with the entry.)
abbrev pub misrecorded : Space → Bool
misrecorded x =
    ltb 100000000 x.tonnage
    || ltb 99 x.deck
    || not (includes (lengths (kind_of x.kind)) x.length.0)
    || (not (is_room x) && not (eqb x.within 0))

-- the number with which a record is refused after the spaces xs, where L is the tonnage length
unfoldable pub record_number : Hundredths → List Space → Space → ℕ
record_number L xs x = first_of ((misrecorded x, 2) ∷ entry_tests L xs x)

-- the first refused of some records after the spaces xs, with its position from 1; 0 and 0 where none is
abbrev pub first_refused : Hundredths → List Space → List Space → RefusedRecord
first_refused L xs [] = record { number = 0; position = 0 }
first_refused L xs (x ∷ rest) =
    cond (eqb (record_number L xs x) 0)
    (first_refused L (xs ++ (x ∷ [])) rest)
    (record { number = record_number L xs x; position = length xs + 1 })
