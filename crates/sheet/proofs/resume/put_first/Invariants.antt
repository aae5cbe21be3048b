-- `resume::put_first`: the first places hold the spaces of the records so far.
use Rattle.std.proofs.Common.{◌≡◌, ◌++◌, take, drop, map}
use Rattle.spaces.specs.Space.{recorded}
use Rattle.sheet.proofs.resume.put_first.Given as goal

abbrev pub invariant-loop-place : goal.invariant-loop-place
invariant-loop-place l = l.places ≡ map recorded (take l.place l.records) ++ drop l.place l.initial.places
