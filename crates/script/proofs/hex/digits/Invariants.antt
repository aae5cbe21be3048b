-- `hex::digits` meets its contract. The loop's invariant: the digits of i bytes are laid.
use Rattle.std.proofs.Common.{◌*◌, ◌≡◌}
use Rattle.script.specs.Hex.{hex_fitting}
use Rattle.script.proofs.Laws.Laid.{begun}
use Rattle.script.proofs.hex.digits.Given as goal

abbrev pub invariant-loop-i : goal.invariant-loop-i
invariant-loop-i l = l.into ≡ begun (hex_fitting l.bytes l.initial.into) (2 * l.i) l.initial.into
