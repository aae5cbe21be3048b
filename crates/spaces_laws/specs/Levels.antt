-- Levels and the enclosing spaces visited, said of the spaces themselves, with no walk and no levels left ("Enclosure"; T-07 of document
-- 02).
use Rattle.std.specs.Prelude.{ℕ, ◌+◌, ◌≡◌, false, List, None, Some}
use Rattle.spaces.specs.Space.{is_room}
use Rattle.spaces.specs.Enclosure.{enclosing}
use Rattle.spaces.specs.declared.space.Space.{Space}

-- "A U, B, S or H is at level 1, a room one below its enclosing space": among the spaces xs, x is at level n
pub data LevelIs (xs : List Space) : Space → ℕ → Type 0 where
  outermost : {x : Space} → is_room x ≡ false → LevelIs xs x 1
  inside : {x z : Space} {n : ℕ} → enclosing xs x ≡ Some z → LevelIs xs z n → LevelIs xs x (n + 1)

-- "level would pass 8": the space that would enclose x is at level 8 already
pub record InsideLevel8 (xs : List Space) (x : Space) : Type 0 where
  pub home : Space
  pub encloses : enclosing xs x ≡ Some home
  pub home_at_8 : LevelIs xs home 8

-- "one for the named space and one for each step above it": from x so many enclosing spaces are visited
pub data VisitedIs (xs : List Space) : Space → ℕ → Type 0 where
  not_enclosed : {x : Space} → enclosing xs x ≡ None → VisitedIs xs x 0
  one_more : {x z : Space} {n : ℕ} → enclosing xs x ≡ Some z → VisitedIs xs z n → VisitedIs xs x (n + 1)
