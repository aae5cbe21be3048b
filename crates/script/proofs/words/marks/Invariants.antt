-- `words::marks` meets its contract. The loop's invariant: the marks among the bytes passed are counted.
use Rattle.std.proofs.Common.{◌≡◌, ◌≤◌, take}
use Rattle.script.specs.Words.{marks_in}
use Rattle.script.proofs.words.marks.Given as goal

abbrev pub invariant-loop-byte : goal.invariant-loop-byte
invariant-loop-byte l = record { counted : l.n ≡ marks_in l.mark (take l.byte-index l.text); few : l.n ≤ l.byte-index }
