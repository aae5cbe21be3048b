-- `hex::bytes` meets its contract. The loop's invariant: so many bytes are laid as pairs of digits were passed.
use Rattle.std.proofs.Common.{◌≡◌, length}
use Rattle.script.specs.Hex.{bytes_of}
use Rattle.script.proofs.Laws.Laid.{begun}
use Rattle.script.proofs.hex.bytes.Given as goal

abbrev pub invariant-loop-place : goal.invariant-loop-place
invariant-loop-place l = l.into ≡ begun (bytes_of l.digits) (length l.yielded) l.initial.into
