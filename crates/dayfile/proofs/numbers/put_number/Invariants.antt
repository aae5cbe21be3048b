-- `put_number` meets its contract: the bytes written, and those still to write, are those of the number.
use Rattle.std.proofs.Common.{◌≡◌, ◌++◌, ◌-◌, length, take}
use Rattle.dayfile.specs.Numbers.{bytes_of}
use Rattle.dayfile.proofs.numbers.put_number.Given as goal

abbrev pub invariant-loop-byte : goal.invariant-loop-byte
invariant-loop-byte l =
    take l.byte-index l.field ++ bytes_of (length l.initial.field - l.byte-index) l.rest ≡ bytes_of (length l.initial.field) l.number
