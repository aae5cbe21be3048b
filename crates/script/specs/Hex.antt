-- Bytes as hex digits, two a byte, the higher first; `-` for no bytes ("HEX" of the protocol).
use Rattle.std.specs.Prelude.{ℕ, ◌+◌, ◌*◌, ◌-◌, ◌/◌, ◌%◌, Bool, true, cond, not, ◌&&◌, List, [], ◌∷◌, ltb, eqb, length, take}
use Prim.Native.Char.{code}
use Rattle.script.specs.Words.{is_decimal, is_letter, all_digits}

-- "an even number of digits 0-9a-f", and not none of them
abbrev pub is_hex : List ℕ → Bool
is_hex word = not (eqb (length word) 0) && eqb (length word % 2) 0 && all_digits true word

-- the value of a digit, and the digit of a value; 0 of what is no digit
abbrev pub digit_value : ℕ → ℕ
digit_value x = cond (is_decimal x) (x - code "0") (cond (is_letter x) (x - code "a" + 10) 0)

abbrev pub hex_digit : ℕ → ℕ
hex_digit v = cond (ltb v 10) (code "0" + v) (code "a" + (v - 10))

-- the bytes of digits
abbrev pub bytes_of : List ℕ → List ℕ
bytes_of [] = []
bytes_of (high ∷ []) = []
bytes_of (high ∷ low ∷ rest) = (digit_value high * 16 + digit_value low) ∷ bytes_of rest

-- the digits of bytes
abbrev pub hex_of : List ℕ → List ℕ
hex_of [] = []
hex_of (b ∷ bs) = hex_digit (b / 16) ∷ hex_digit (b % 16) ∷ hex_of bs

-- the digits of as many bytes as an array has room for, two places a byte
abbrev pub hex_fitting : List ℕ → List ℕ → List ℕ
hex_fitting bytes array = hex_of (take (length array / 2) bytes)
