-- What an entry answers beside its number: "how far up did it look" (T-07 of document 02).
use Rattle.std.specs.Prelude.{ℕ, ◌≤◌, ◌<◌, min, ◌≡◌, true, false, List, ◌↔◌, None, Some}
use Rattle.spaces.specs.Space.{is_room}
use Rattle.spaces.specs.Row.{find}
use Rattle.spaces.specs.Enclosure.{level}
use Rattle.spaces.specs.declared.space.Space.{Space}
use Rattle.sheet.specs.Sheet.{standing, usable}
use Rattle.sheet.specs.Calls.{visited_for}
use Rattle.sheet.specs.Tanks.{tank_entered, tank_entering}
use Rattle.sheet.specs.declared.sheet.Sheet.{Sheet}
use Rattle.sheet.specs.declared.tanks.Tank.{Tank}

-- "the number of enclosing spaces visited", answered of a room or a tank that names an enclosing id on the sheet s, with the number with
-- which it is refused, or 0
pub record Visits (s : Sheet) (within number visited : ℕ) : Type 0 where
  -- it hangs on the enclosing id alone: every room that names it has the same
  pub by_enclosing_id : (x : Space) → is_room x ≡ true → x.within ≡ within → visited ≡ visited_for s x
  -- "one for the named space and one for each step above it to level 1"
  pub by_level : usable s ≡ true → (z : Space) → find within (standing s) ≡ Some z → visited ≡ min (level (standing s) z) 8
  -- "It is at most 8"
  pub at_most_8 : visited ≤ 8
  -- "is 8 only where 7 or a lower number refuses the entry"
  pub refused_at_8 : visited ≡ 8 → (0 < number) × (number ≤ 7)
  -- "and is 0 if the enclosing id isn't standing", and else not
  pub none_exactly : usable s ≡ true → (visited ≡ 0) ↔ (find within (standing s) ≡ None)
  pub none_when_not_open : usable s ≡ false → visited ≡ 0

-- entering a tank makes the change that it made, with the same number
pub record TankAsBefore (s : Sheet) (k : Tank) (depths breadths : List ℕ) : Type 0 where
  pub same_number : (tank_entering s k depths breadths).number ≡ (tank_entered s k depths breadths).number
  pub same_sheet : (tank_entering s k depths breadths).sheet ≡ (tank_entered s k depths breadths).sheet
