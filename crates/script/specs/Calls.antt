-- What a line of a program is ("Calls" of the protocols): passed over, a call, or no call, and then the first remark that fits: of its
-- first word, of the number of its words, then of the words behind the call from left to right.
-- Stands on: Text (ascii), Words (words, numbers, lists), Hex.
use Rattle.std.specs.Prelude.{ℕ, ◌+◌, Bool, true, false, cond, not, ◌&&◌, ◌||◌, List, [], ◌∷◌, ltb, eqb, length, drop, get_or, Option, Some, None, Result, Ok, Err}
use Prim.Native.Char.{code}
use Rattle.script.specs.Text.{ascii}
use Rattle.script.specs.Words.{words_of, word_at, same_text, number_of, value_in, is_empty_list, numbers_of}
use Rattle.script.specs.Hex.{is_hex}
use Rattle.script.specs.declared.remarks.Remark.{Remark}
use Rattle.script.specs.declared.remarks.Remark.TheVariants.{UnknownCall, WrongNumberOfWords, NumberTooLarge, ListTooLong, BufferTooLarge, NotAByte, FileTooLong, NotHex}

-- ---- the calls of each program, as forms: a call's name, and behind it what each of its words is to be

abbrev pub survey_forms : List (List ℕ)
survey_forms =
    ascii "open number"
    ∷ ascii "open number vessel"
    ∷ ascii "enter number number number number number list list"
    ∷ ascii "enter number number number number number list list number"
    ∷ ascii "enter number number number number number list list number number"
    ∷ ascii "enter number number number number number list list number number number"
    ∷ ascii "tank number number number number number list list"
    ∷ ascii "tank number number number number number list list number"
    ∷ ascii "withdraw number"
    ∷ ascii "mark number number"
    ∷ ascii "undo"
    ∷ ascii "redo"
    ∷ ascii "counts"
    ∷ ascii "report number"
    ∷ ascii "write number number size"
    ∷ ascii "write number number size number"
    ∷ ascii "writef number number size fill"
    ∷ ascii "writef number number size fill number"
    ∷ ascii "read hex"
    ∷ ascii "before number hex"
    ∷ ascii "move hex number number size fill"
    ∷ ascii "zones number number number number"
    ∷ ascii "spaces"
    ∷ []

abbrev pub figures_forms : List (List ℕ)
figures_forms =
    ascii "space number number number list list"
    ∷ ascii "hatchways number number"
    ∷ ascii "ballast number number"
    ∷ []

-- a form with the line's name and, where they are counted, as many words
abbrev pub is_form : Bool → List ℕ → List ℕ → Bool
is_form counted line form =
    same_text (word_at 0 form) (word_at 0 line) && (not counted || eqb (length (words_of form)) (length (words_of line)))

-- the place of the first such form, from 0; as many as there are forms where there is none
abbrev pub place_by : Bool → List ℕ → List (List ℕ) → ℕ
place_by counted line [] = 0
place_by counted line (form ∷ others) = cond (is_form counted line form) 0 (1 + place_by counted line others)

-- the place of a line's form: calls of one name are "told by how many words there are"; where none has as many, it is the first of the name
unfoldable pub place_of : List ℕ → List (List ℕ) → ℕ
place_of line forms =
    let place = place_by true line forms in
    cond (ltb place (length forms)) place (place_by false line forms)

-- a place, where it is one of so many forms
abbrev pub place_among : List (List ℕ) → ℕ → Option ℕ
place_among forms place = cond (ltb place (length forms)) (Some place) None

-- ---- the words behind a call

-- they fit, or there is a remark
abbrev pub Judged : Type 0
Judged = Result (Unit {0}) Remark

-- the remark of one, else what comes next
abbrev pub or_else : Judged → Judged → Judged
or_else (Ok fits) next = next
or_else (Err remark) next = Err remark

-- "A number is [0-9]+ with a value from 0 to 2^64-1"
abbrev pub number_judged : Result ℕ Remark → Judged
number_judged (Ok x) = Ok tt
number_judged (Err remark) = Err remark

abbrev pub judged_number : List ℕ → Judged
judged_number word = number_judged (number_of word)

-- a number, and where it is one, at most a greatest
abbrev pub judged_up_to : ℕ → Remark → List ℕ → Judged
judged_up_to greatest remark word =
    or_else (judged_number word) (cond (ltb greatest (value_in (number_of word))) (Err remark) (Ok tt))

-- "Lists of up to 1,024 numbers are taken", counted whatever they are; then each from left to right
abbrev pub judged_numbers : List (List ℕ) → Judged
judged_numbers [] = Ok tt
judged_numbers (number ∷ others) = or_else (judged_number number) (judged_numbers others)

unfoldable pub judged_list : List ℕ → Judged
judged_list list = cond (ltb 1024 (length (numbers_of list))) (Err ListTooLong) (judged_numbers (numbers_of list))

-- "HEX is an even number of digits 0-9a-f, or '-' for no bytes; at most 65,536 bytes": its length is judged first
unfoldable pub judged_hex : List ℕ → Judged
judged_hex word =
    cond (is_empty_list word) (Ok tt)
    (cond (ltb 131072 (length word)) (Err FileTooLong) (cond (is_hex word) (Ok tt) (Err NotHex)))

-- a word, by the form's word for it: "SIZE is at most 65,536"; FILL is "0 to 255"; "Only a vessel number has no value outside its range, so
-- there a number over 4,294,967,295 makes the line no call"
unfoldable pub judged_word : List ℕ → List ℕ → Judged
judged_word asked word =
    cond (same_text asked (ascii "list")) (judged_list word)
    (cond (same_text asked (ascii "size")) (judged_up_to 65536 BufferTooLarge word)
    (cond (same_text asked (ascii "fill")) (judged_up_to 255 NotAByte word)
    (cond (same_text asked (ascii "vessel")) (judged_up_to 4294967295 NumberTooLarge word)
    (cond (same_text asked (ascii "hex")) (judged_hex word) (judged_number word)))))

-- words, as many as are asked, from left to right
abbrev pub judged_words : List (List ℕ) → List (List ℕ) → Judged
judged_words [] words = Ok tt
judged_words (asked ∷ others) [] = Ok tt
judged_words (asked ∷ others) (word ∷ words) = or_else (judged_word asked word) (judged_words others words)

-- the line of a call: the number of its words, then those behind the call's name
unfoldable pub judged : List ℕ → List ℕ → Judged
judged form line =
    cond (eqb (length (words_of line)) (length (words_of form)))
    (judged_words (drop 1 (words_of form)) (drop 1 (words_of line)))
    (Err WrongNumberOfWords)

-- ---- a line

-- "An empty line and a line that begins with '#' have no answer"
abbrev pub is_passed : List ℕ → Bool
is_passed [] = true
is_passed (x ∷ xs) = eqb x (code "#")

-- a call by the place of its form from 0, where its words fit
abbrev pub line_of : ℕ → Judged → Result (Option ℕ) Remark
line_of place (Ok fits) = Ok (Some place)
line_of place (Err remark) = Err remark

unfoldable pub line_by : List (List ℕ) → List ℕ → Result (Option ℕ) Remark
line_by forms line =
    let place = place_of line forms in
    cond (is_passed line) (Ok None)
    (cond (ltb place (length forms)) (line_of place (judged (get_or forms place []) line)) (Err UnknownCall))
