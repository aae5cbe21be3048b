-- A record and a trailer are rows of fields, each with a width in bytes and a range of numbers.
use Rattle.std.specs.Prelude.{ℕ, ◌+◌, Bool, true, ◌&&◌, List, [], ◌∷◌, ◌++◌, leb, take, drop}
use Rattle.dayfile.specs.Numbers.{bytes_of, number_of}

pub record Field : Type 0 where
  pub width : ℕ
  pub least : ℕ
  pub greatest : ℕ

-- a field of some bytes, with a range
abbrev pub field : ℕ → ℕ → ℕ → Field
field width least greatest = record { width = width; least = least; greatest = greatest }

-- one that is always zero
abbrev pub zero_field : ℕ → Field
zero_field width = field width 0 0

abbrev pub each : (Field → ℕ) → List Field → List ℕ
each f [] = []
each f (x ∷ xs) = f x ∷ each f xs

abbrev pub widths : List Field → List ℕ
widths = each (λ x. x.width)

-- the numbers in fields of these widths, one after the other, as bytes
abbrev pub encoded : List ℕ → List ℕ → List ℕ
encoded [] numbers = []
encoded (w ∷ ws) [] = []
encoded (w ∷ ws) (n ∷ ns) = bytes_of w n ++ encoded ws ns

-- and the numbers in the fields at the front of some bytes
abbrev pub decoded : List ℕ → List ℕ → List ℕ
decoded [] bytes = []
decoded (w ∷ ws) bytes = number_of (take w bytes) ∷ decoded ws (drop w bytes)

-- how many bytes fields of these widths have
abbrev pub size : List ℕ → ℕ
size [] = 0
size (w ∷ ws) = w + size ws

-- every number from the least to the greatest of its field
abbrev pub in_ranges : List ℕ → List ℕ → List ℕ → Bool
in_ranges [] greatest numbers = true
in_ranges (l ∷ ls) [] numbers = true
in_ranges (l ∷ ls) (g ∷ gs) [] = true
in_ranges (l ∷ ls) (g ∷ gs) (n ∷ ns) = leb l n && leb n g && in_ranges ls gs ns

abbrev pub fitting : List Field → List ℕ → Bool
fitting fields numbers = in_ranges (each (λ x. x.least) fields) (each (λ x. x.greatest) fields) numbers
