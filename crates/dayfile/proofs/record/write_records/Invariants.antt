-- `write_records` meets its contract: the records still to store, from the place reached, give what all of them give.
use Rattle.std.proofs.Common.{◌≡◌, ◌*◌, drop}
use Rattle.std.proofs.Math.Seq.{sets}
use Rattle.dayfile.specs.Record.{record_size, records}
use Rattle.dayfile.proofs.record.write_records.Given as goal

abbrev pub invariant-loop-i : goal.invariant-loop-i
invariant-loop-i l =
    sets l.buf (record_size l.form * l.i) (records l.form (drop l.i l.spaces)) ≡ sets l.initial.buf 0 (records l.form l.spaces)
