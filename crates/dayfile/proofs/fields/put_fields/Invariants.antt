-- `put_fields` meets its contract: the fields still to store, from the place reached, give what all of them give.
use Rattle.std.proofs.Common.{◌≡◌, ◌+◌, length, drop}
use Rattle.std.proofs.Math.Seq.{sets}
use Rattle.dayfile.specs.Fields.{encoded, size}
use Rattle.dayfile.proofs.fields.put_fields.Given as goal

abbrev pub invariant-loop-width : goal.invariant-loop-width
invariant-loop-width l =
    let i = length l.yielded in record {
      fields_left : l.at + size (drop i l.widths) ≡ size l.widths;
      stored : sets l.buf l.at (encoded (drop i l.widths) (drop i l.numbers)) ≡ sets l.initial.buf 0 (encoded l.widths l.numbers);
    }
