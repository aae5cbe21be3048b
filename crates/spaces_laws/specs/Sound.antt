-- What holds of a valid sheet and of every space on it, whatever the order.
use Rattle.std.specs.Prelude.{◌≤◌, ◌≡◌, true, false, List, length, Some}
use Rattle.measure.specs.declared.units.Hundredths.{Hundredths}
use Rattle.spaces.specs.Space.{is_room, is_plain}
use Rattle.standard.specs.Standings.{may_take}
use Rattle.spaces.specs.Row.{find, sum_of}
use Rattle.spaces.specs.Enclosure.{above, level, all_plain}
use Rattle.spaces.specs.declared.space.Space.{Space}
use Rattle.spaces.specs.declared.sums.Amount.TheVariants.{Inside, Lengths}
use Rattle.spaces_laws.specs.Above.{◌∈◌}
use Rattle.spaces_laws.specs.Accepted.{Enclosed}

-- a space among those of a sheet
pub record Member (xs : List Space) (y : Space) : Type 0 where
  pub found : find y.id xs ≡ Some y
  pub id_at_least : 1 ≤ y.id
  pub id_at_most : y.id ≤ 9999
  pub may_take : may_take y.kind y.standing ≡ true
  pub enclosed : is_room y ≡ true → Enclosed xs y
  pub level_at_most : level xs y ≤ 8
  pub plain_above : is_plain y ≡ false → all_plain (above xs y) ≡ true
  -- "Rooms directly inside a space have recorded tonnages that add up to no more than its own"
  pub rooms_fit : sum_of (Inside y.id) xs ≤ y.tonnage

pub record Sound (L : Hundredths) (xs : List Space) : Type 0 where
  pub member : (y : Space) → y ∈ xs → Member xs y
  -- "Lengths of all U add up to no more than the tonnage length"
  pub lengths_fit : sum_of Lengths xs ≤ L.0
  pub at_most_200 : length xs ≤ 200
