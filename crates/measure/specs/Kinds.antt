-- The kinds of space and their codes ("Spaces", the table of kinds).
use Rattle.std.specs.Prelude.{ℕ, Bool, true, false, cond, eqb}
use Rattle.measure.specs.declared.kinds.Kind.{Kind}
use Rattle.measure.specs.declared.kinds.Kind.TheVariants.{UnderDeck, BetweenDeck, Superstructure, Hatchway, Room, NoKind}

-- the kind that a code stands for: 1 is U, 2 B, 3 S, 4 H, 5 R, and any other none
unfoldable pub kind_of : ℕ → Kind
kind_of code =
    cond (eqb code 1) UnderDeck
    (cond (eqb code 2) BetweenDeck
    (cond (eqb code 3) Superstructure
    (cond (eqb code 4) Hatchway
    (cond (eqb code 5) Room
    NoKind))))

abbrev pub is_kind : Kind → Bool
is_kind UnderDeck = true
is_kind BetweenDeck = true
is_kind Superstructure = true
is_kind Hatchway = true
is_kind Room = true
is_kind NoKind = false
