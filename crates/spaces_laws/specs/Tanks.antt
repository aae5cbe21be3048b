-- What holds of an accepted tank (T-01 of document 02): it is accepted as any room, in a standing U with m whose ends it doesn't pass.
-- Everywhere x is the tank's record, a room, and f the distance of its fore end along the U.
use Rattle.std.specs.Prelude.{◌≡◌, true, false, List, Some}
use Rattle.measure.specs.Tanks.{passes_end, has_m}
use Rattle.measure.specs.declared.units.Hundredths.{Hundredths}
use Rattle.spaces.specs.Space.{is_under_deck}
use Rattle.spaces.specs.Row.{find}
use Rattle.spaces.specs.declared.space.Space.{Space}
use Rattle.spaces_laws.specs.Accepted.{Accepted}

-- "The tank names its U"; "6 also if the enclosing space isn't a U"
pub record InUnderDeck (xs : List Space) (x : Space) : Type 0 where
  pub under_deck : Space
  pub stands : find x.within xs ≡ Some under_deck
  pub is_under_deck : is_under_deck under_deck ≡ true

-- what the numbers 4 to 10 and 29 leave of a tank
pub record AcceptedTank (L : Hundredths) (xs : List Space) (x : Space) (f : Hundredths) : Type 0 where
  pub as_room : Accepted L xs x
  pub inside : InUnderDeck xs x
  -- "9 also if the tank passes an end of its U"
  pub within_ends : passes_end inside.under_deck.length x.length f ≡ false
  -- "29, after all the others, if that U has no m"
  pub has_m : has_m inside.under_deck.m ≡ true
