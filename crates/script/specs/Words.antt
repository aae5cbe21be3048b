-- Words of a line, and the numbers and lists in them ("Lines" and "Arguments" of the protocol).
use Rattle.std.specs.Prelude.{ℕ, ◌+◌, ◌*◌, ◌-◌, min, Bool, true, false, cond, ◌&&◌, ◌||◌, List, [], ◌∷◌, map, leb, eqb, get_or, Result, Ok, Err}
use Prim.Native.Char.{code}
use Rattle.script.specs.declared.remarks.Remark.{Remark}
use Rattle.script.specs.declared.remarks.Remark.TheVariants.{NotANumber, NumberTooLarge}

-- ---- parts of a text: a script is cut at its line ends, a line at its spaces, a list at its commas

-- a byte put in front of the first part
abbrev pub on_first : ℕ → List (List ℕ) → List (List ℕ)
on_first x [] = []
on_first x (part ∷ parts) = (x ∷ part) ∷ parts

-- all parts of a text: each mark ends one and begins the next
abbrev pub parts_of : ℕ → List ℕ → List (List ℕ)
parts_of mark [] = [] ∷ []
parts_of mark (x ∷ xs) = cond (eqb x mark) ([] ∷ parts_of mark xs) (on_first x (parts_of mark xs))

-- how many marks a text has: one fewer than parts
abbrev pub marks_in : ℕ → List ℕ → ℕ
marks_in mark [] = 0
marks_in mark (x ∷ xs) = cond (eqb x mark) 1 0 + marks_in mark xs

-- the first part, up to the first mark
abbrev pub first : ℕ → List ℕ → List ℕ
first mark [] = []
first mark (x ∷ xs) = cond (eqb x mark) [] (x ∷ first mark xs)

-- ---- words

-- "Words are separated by exactly one space"; behind the last they are empty
abbrev pub words_of : List ℕ → List (List ℕ)
words_of line = parts_of (code " ") line

abbrev pub word_at : ℕ → List ℕ → List ℕ
word_at place line = get_or (words_of line) place []

abbrev pub same_text : List ℕ → List ℕ → Bool
same_text [] [] = true
same_text [] (y ∷ ys) = false
same_text (x ∷ xs) [] = false
same_text (x ∷ xs) (y ∷ ys) = eqb x y && same_text xs ys

-- ---- "A number is [0-9]+ with a value from 0 to 2^64-1"

abbrev pub is_decimal : ℕ → Bool
is_decimal x = leb (code "0") x && leb x (code "9")

abbrev pub is_letter : ℕ → Bool
is_letter x = leb (code "a") x && leb x (code "f")

-- a digit 0 to 9, or a to f too, where hex is asked
abbrev pub is_digit : Bool → ℕ → Bool
is_digit hex x = cond hex (is_decimal x || is_letter x) (is_decimal x)

abbrev pub all_digits : Bool → List ℕ → Bool
all_digits hex [] = true
all_digits hex (x ∷ xs) = is_digit hex x && all_digits hex xs

-- the value of digits behind others whose value is v
abbrev pub value_behind : ℕ → List ℕ → ℕ
value_behind v [] = v
value_behind v (x ∷ xs) = value_behind (v * 10 + (x - code "0")) xs

-- a value up to 2^64-1
unfoldable pub held : ℕ → Result ℕ Remark
held v = cond (leb v 18446744073709551615) (Ok v) (Err NumberTooLarge)

-- what a word is as a number: judged as digits first, whatever their value
abbrev pub number_of : List ℕ → Result ℕ Remark
number_of [] = Err NotANumber
number_of (x ∷ xs) = cond (all_digits false (x ∷ xs)) (held (value_behind 0 (x ∷ xs))) (Err NotANumber)

-- its value; 0 where it is none
abbrev pub value_in : Result ℕ Remark → ℕ
value_in (Ok x) = x
value_in (Err remark) = 0

-- "A value above what the library's own type holds .. is handed on as the type's greatest value"
abbrev pub id_of : List ℕ → ℕ
id_of word = min (value_in (number_of word)) 65535

abbrev pub code_of : List ℕ → ℕ
code_of word = min (value_in (number_of word)) 255

abbrev pub measure_of : List ℕ → ℕ
measure_of word = min (value_in (number_of word)) 4294967295

-- "SIZE is at most 65,536"
abbrev pub size_of : List ℕ → ℕ
size_of word = min (value_in (number_of word)) 65536

-- ---- "A list is numbers joined by ',', or '-' for the empty list"

abbrev pub is_empty_list : List ℕ → Bool
is_empty_list list = same_text list (code "-" ∷ [])

-- the words of a list's numbers
abbrev pub numbers_of : List ℕ → List (List ℕ)
numbers_of list = cond (is_empty_list list) [] (parts_of (code ",") list)

-- and the numbers as measures
unfoldable pub measures_of : List ℕ → List ℕ
measures_of list = map measure_of (numbers_of list)
