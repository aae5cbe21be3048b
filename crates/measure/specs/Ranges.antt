-- The ranges of measures ("Ranges").
use Rattle.std.specs.Prelude.{ℕ, List, [], ◌∷◌, Bool, true, ◌&&◌, leb}
use Rattle.measure.specs.declared.ranges.Range.{Range}
use Rattle.measure.specs.declared.kinds.Kind.{Kind}
use Rattle.measure.specs.declared.kinds.Kind.TheVariants.{UnderDeck, BetweenDeck, Superstructure, Hatchway, Room, NoKind}

-- from the least to the most, both included
unfoldable pub includes : Range → ℕ → Bool
includes r x = leb r.least x && leb x r.most

-- every measure of a list
abbrev pub includes_all : Range → List ℕ → Bool
includes_all r [] = true
includes_all r (x ∷ xs) = includes r x && includes_all r xs

-- "Tonnage length, U and B length: 100 to 150,000."
abbrev pub tonnage_lengths : Range
tonnage_lengths = record { least = 100; most = 150000 }

-- "Other lengths: 1 to 150,000."
abbrev pub other_lengths : Range
other_lengths = record { least = 1; most = 150000 }

abbrev pub lengths : Kind → Range
lengths UnderDeck = tonnage_lengths
lengths BetweenDeck = tonnage_lengths
lengths Superstructure = other_lengths
lengths Hatchway = other_lengths
lengths Room = other_lengths
lengths NoKind = other_lengths

-- how far a tank's fore end may lie along its U: "2 for a fore end over 150,000" (T-01)
abbrev pub fores : Range
fores = record { least = 0; most = 150000 }

-- "for H and R the least is 1"
abbrev pub least_offset : Kind → ℕ
least_offset UnderDeck = 0
least_offset BetweenDeck = 0
least_offset Superstructure = 0
least_offset Hatchway = 1
least_offset Room = 1
least_offset NoKind = 0

-- "depths and heights of stations 0 to 20,000"
abbrev pub heights : Kind → Range
heights k = record { least = least_offset k; most = 20000 }

-- "Breadths of stations 0 to 30,000"
abbrev pub breadths : Kind → Range
breadths k = record { least = least_offset k; most = 30000 }
