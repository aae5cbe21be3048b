-- `Sheet::blank` meets its contract.
use Rattle.std.proofs.Common.{◌≡◌, refl, Bool, true, false, cond}
use mir.Val.{bool_byte}
use Rattle.sheet.specs.Sheet.{blank}
use Rattle.sheet.proofs.sheet.Sheet.blank.Goals as goal

as_number : (t : Bool) → bool_byte t ≡ cond t 1 0
as_number true = refl
as_number false = refl

pub returns : goal.returns
unfolding blank
returns c = rw (c.from-free.ensures, c.empty-none.ensures, c.from.ensures, as_number c.args.opened)
