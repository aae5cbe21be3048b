-- `get_fields` meets its contract: the numbers read, and those of the bytes still to read, are those of all.
use Rattle.std.proofs.Common.{◌≡◌, ◌+◌, ◌++◌, take, drop}
use Rattle.dayfile.specs.Fields.{decoded, size}
use Rattle.dayfile.proofs.fields.get_fields.Given as goal

abbrev pub invariant-loop-i : goal.invariant-loop-i
invariant-loop-i l = record {
  fields_left : l.at + size (drop l.i l.widths) ≡ size l.widths;
  read : take l.i l.numbers ++ decoded (drop l.i l.widths) (drop l.at l.bytes) ≡ decoded l.widths l.bytes;
}
