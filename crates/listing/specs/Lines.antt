-- The lines of a listing.
use Rattle.std.specs.Prelude.{ℕ, List, [], ◌∷◌, ◌++◌}
use Prim.Native.Char.{code}
use Rattle.script.specs.Text.{ascii}
use Rattle.measure.specs.Kinds.{kind_of}
use Rattle.measure.specs.declared.kinds.Kind.{Kind}
use Rattle.measure.specs.declared.kinds.Kind.TheVariants.{UnderDeck, BetweenDeck, Superstructure, Hatchway, Room, NoKind}
use Rattle.spaces.specs.declared.space.Space.{Space}
use Rattle.listing.specs.Text.{decimal, hundredths, line}

-- the letter of a kind; no sheet that is read holds a code that stands for none
abbrev pub letter : Kind → ℕ
letter UnderDeck = code "U"
letter BetweenDeck = code "B"
letter Superstructure = code "S"
letter Hatchway = code "H"
letter Room = code "R"
letter NoKind = code "?"

-- "`LENGTH` is the tonnage length in feet"; "then gross and net in tons"
unfoldable pub figure_line : List ℕ → ℕ → List ℕ
figure_line name n = line (name ∷ hundredths n ∷ [])

-- "one line a space ..., with id, enclosing id or 0, kind, standing, tons"
unfoldable pub space_line : Space → List ℕ
space_line x =
    line
    (decimal x.id
    ∷ decimal x.within
    ∷ (letter (kind_of x.kind) ∷ [])
    ∷ decimal x.standing
    ∷ hundredths x.tonnage
    ∷ [])

abbrev pub space_lines : List Space → List ℕ
space_lines [] = []
space_lines (x ∷ xs) = space_line x ++ space_lines xs

-- "A refused file prints one line: `REFUSED`, the number and the position."
unfoldable pub refusal_line : ℕ → ℕ → List ℕ
refusal_line number position = line (ascii "REFUSED" ∷ decimal number ∷ decimal position ∷ [])
