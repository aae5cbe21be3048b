-- `records::first_refused` meets its contract. The loop's invariant: the first refused of what is left, after those passed, is the
-- first.
use Rattle.std.proofs.Common.{◌≡◌, [], take, drop}
use Rattle.standard.specs.Records.{first_refused}
use Rattle.standard.proofs.records.first_refused.Given as goal

abbrev pub invariant-loop-i : goal.invariant-loop-i
invariant-loop-i l =
    first_refused l.tonnage_length (take l.i l.row.spaces.now) (drop l.i l.row.spaces.now) ≡ first_refused l.tonnage_length [] l.row.spaces.now
