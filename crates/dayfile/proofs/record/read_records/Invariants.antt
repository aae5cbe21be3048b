-- `read_records` meets its contract: the spaces read, and those of the records still to read, are those of all.
use Rattle.std.proofs.Common.{◌≡◌, ◌*◌, ◌-◌, ◌++◌, take, drop}
use Rattle.dayfile.specs.Record.{record_size, records_in}
use Rattle.dayfile.specs.Handed.{each_read_as}
use Rattle.dayfile.proofs.record.read_records.Given as goal

abbrev pub invariant-loop-i : goal.invariant-loop-i
invariant-loop-i l =
    take l.i l.x-items ++ each_read_as l.form (records_in l.form (l.count - l.i) (drop (record_size l.form * l.i) l.bytes)) ≡ each_read_as l.form (records_in l.form l.count l.bytes)
