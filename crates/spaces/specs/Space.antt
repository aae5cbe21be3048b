-- A space: what its record has ("Spaces"), with "a deck number .. (0 to 99, 0 for none)" (T-05), and m, "4 or 6 for a U entered from
-- offsets, 0 for every other space and for every space read from a file or resumed" (T-01).
use Rattle.std.specs.Prelude.{ℕ, Bool, ◌||◌, List, map, eqb}
use Rattle.spaces.specs.declared.space.Space.{Space}

-- the record of a free place
abbrev pub empty_space : Space
empty_space = record { id = 0; within = 0; kind = 0; standing = 0; m = 0; deck = 0; tonnage = 0; length = record { 0 = 0 } }

-- the kinds by their codes: 1 U, 2 B, 3 S, 4 H, 5 R
abbrev pub is_under_deck : Space → Bool
is_under_deck x = eqb x.kind 1

abbrev pub is_hatchway : Space → Bool
is_hatchway x = eqb x.kind 4

abbrev pub is_room : Space → Bool
is_room x = eqb x.kind 5

-- U, B or S
abbrev pub is_hull : Space → Bool
is_hull x = eqb x.kind 1 || eqb x.kind 2 || eqb x.kind 3

-- "0 plain, 1 exempt, 2 exempt as water ballast, 3 deducted"; 4 is machinery, and "Machinery rooms count as not plain" (T-06)
abbrev pub is_plain : Space → Bool
is_plain x = eqb x.standing 0

-- a space with another standing, and all else as it was
abbrev pub restanding : ℕ → Space → Space
restanding standing x =
    record {
      id = x.id;
      within = x.within;
      kind = x.kind;
      standing = standing;
      m = x.m;
      deck = x.deck;
      tonnage = x.tonnage;
      length = x.length;
    }

-- a space as its record gives it back: its m is gone
abbrev pub recorded : Space → Space
recorded x =
    record {
      id = x.id;
      within = x.within;
      kind = x.kind;
      standing = x.standing;
      m = 0;
      deck = x.deck;
      tonnage = x.tonnage;
      length = x.length;
    }

abbrev pub all_recorded : List Space → List Space
all_recorded xs = map recorded xs
