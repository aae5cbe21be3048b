-- `words::measures` meets its contract. The loop's invariant: so many measures are laid, and counted, as numbers were passed.
use Rattle.std.proofs.Common.{◌≡◌, length}
use Rattle.script.specs.Words.{measures_of}
use Rattle.script.proofs.Laws.Laid.{begun}
use Rattle.script.proofs.words.measures.Given as goal

abbrev pub invariant-loop-place : goal.invariant-loop-place
invariant-loop-place l = record {
  laid : l.into ≡ begun (measures_of l.list) (length l.yielded) l.initial.into;
  counted : l.n ≡ length l.yielded;
}
