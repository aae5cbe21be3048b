-- "Numbers are little-endian": a number as some bytes, the lowest first, and back.
use Rattle.std.specs.Prelude.{ℕ, zero, suc, ◌+◌, ◌*◌, ◌/◌, ◌%◌, List, [], ◌∷◌}
use Rattle.measure.specs.Handed.{AllAtMost}

-- a list of bytes: no number of it is over 255
abbrev pub Bytes : List ℕ → Type 0
Bytes bytes = AllAtMost 255 bytes

abbrev pub bytes_of : ℕ → ℕ → List ℕ
bytes_of zero x = []
bytes_of (suc width) x = (x % 256) ∷ bytes_of width (x / 256)

abbrev pub number_of : List ℕ → ℕ
number_of [] = 0
number_of (b ∷ bs) = b + 256 * number_of bs
