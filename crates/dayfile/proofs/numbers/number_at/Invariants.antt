-- `number_at` meets its contract: from the last byte back, the number of the bytes read.
use Rattle.std.proofs.Common.{◌-◌, length, drop}
use Rattle.dayfile.specs.Handed.{Number}
use Rattle.dayfile.proofs.numbers.number_at.Given as goal

abbrev pub invariant-loop-byte : goal.invariant-loop-byte
invariant-loop-byte l = Number (length l.yielded) (drop (length l.field - length l.yielded) l.field) l.number
