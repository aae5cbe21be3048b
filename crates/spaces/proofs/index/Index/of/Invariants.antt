-- `index::Index::of` meets its contract. The loop's invariant: the places of the ids from the last place laid on.
use Rattle.std.proofs.Common.{◌≡◌, length}
use Rattle.spaces.proofs.Laws.Index.{IndexedFrom}
use Rattle.spaces.proofs.index.Index.of.Given as goal

abbrev pub invariant-loop-place : goal.invariant-loop-place
invariant-loop-place l = record { reach : length l.places ≡ 10000; laid : IndexedFrom l.place l.row.spaces.now l.places }
