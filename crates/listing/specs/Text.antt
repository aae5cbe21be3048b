-- Numbers and lines as bytes of text; words are those of a script (`ascii`).
use Rattle.std.specs.Prelude.{ℕ, zero, suc, ◌+◌, ◌/◌, ◌%◌, cond, List, [], ◌∷◌, ◌++◌, ltb}
use Prim.Native.Char.{code}

-- the last digit of a number
abbrev pub digit : ℕ → ℕ
digit n = code "0" + n % 10

-- the digits of a number, where `more` of them at most stand before the last
abbrev pub digits : ℕ → ℕ → List ℕ
digits zero n = digit n ∷ []
digits (suc more) n = cond (ltb n 10) (digit n ∷ []) (digits more (n / 10) ++ (digit n ∷ []))

-- A number in decimal: all its digits, of which it has no more than its own value and one. Its equations, with no such count, are
-- `decimal_one` and `decimal_more` (proofs/Laws/Decimal); what it means is said in listing_laws.
unfoldable pub decimal : ℕ → List ℕ
decimal n = digits n n

-- hundredths of a foot or a ton, in feet or tons: two decimals always
unfoldable pub hundredths : ℕ → List ℕ
hundredths n = decimal (n / 100) ++ (code "." ∷ digit (n / 10) ∷ digit n ∷ [])

-- a line: words one space apart, and a newline at the end
abbrev pub line : List (List ℕ) → List ℕ
line [] = code "\n" ∷ []
line (word ∷ []) = word ++ (code "\n" ∷ [])
line (word ∷ next ∷ rest) = word ++ (code " " ∷ line (next ∷ rest))
