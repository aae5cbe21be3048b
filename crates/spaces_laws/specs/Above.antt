-- Which spaces are among some, and which of them are anywhere above another ("Enclosure"), with no walk and no levels left.
use Rattle.std.specs.Prelude.{◌≡◌, Some, List}
use mathlib.Core.List.{Memᴰ}
use Rattle.spaces.specs.Enclosure.{enclosing}
use Rattle.spaces.specs.declared.space.Space.{Space}

-- `x ∈ xs`: x is one of the spaces xs
abbrev pub ◌∈◌ : Space → List Space → Type 0
◌∈◌ x xs = Memᴰ x xs

infix 40 ◌∈◌
-- `Above xs y z`: z encloses y, or is above the space that encloses y
pub data Above (xs : List Space) : Space → Space → Type 0 where
  directly : {y z : Space} → enclosing xs y ≡ Some z → Above xs y z
  further : {y t z : Space} → enclosing xs y ≡ Some t → Above xs t z → Above xs y z
