-- A script's text, and words as bytes of it.
use Rattle.std.specs.Prelude.{ℕ, List, [], ◌∷◌, replicate, cond, eqb}
use Prim.Native.Char.{code}
use Prim.Native.String.{String, [] as empty, ◌∷◌ as ◌then◌}

-- the bytes of a word of plain letters
abbrev pub ascii : String → List ℕ
ascii empty = []
ascii (◌then◌ c rest) = code c ∷ ascii rest

-- "a script over 1,048,576 bytes" is none: zeros for so many, and one more
unfoldable pub room_for_script : List ℕ
room_for_script = replicate 1048577 0

-- a byte put in front of the first line, a line by itself where there is none
abbrev pub on_line : ℕ → List (List ℕ) → List (List ℕ)
on_line x [] = (x ∷ []) ∷ []
on_line x (line ∷ lines) = (x ∷ line) ∷ lines

-- "a line ends with `\n`": the lines of a text, and what stands behind its last newline, where there is something
abbrev pub lines_of : List ℕ → List (List ℕ)
lines_of [] = []
lines_of (x ∷ xs) = cond (eqb x (code "\n")) ([] ∷ lines_of xs) (on_line x (lines_of xs))
