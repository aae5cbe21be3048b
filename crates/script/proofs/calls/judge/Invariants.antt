-- `calls::judge` meets its contract. The loop's invariant: the line has as many words as the form, and those from here on are judged as it is.
use Rattle.std.proofs.Common.{◌+◌, ◌≡◌, drop, length}
use Rattle.script.specs.Words.{marks_in, words_of}
use Rattle.script.specs.Calls.{judged_words, judged}
use Rattle.script.proofs.calls.judge.Given as goal

abbrev pub invariant-loop-asked : goal.invariant-loop-asked
invariant-loop-asked l =
    (marks_in 32 l.line ≡ marks_in 32 l.form)
    × (judged_words (drop (length l.yielded + 1) (words_of l.form)) (drop (length l.yielded + 1) (words_of l.line)) ≡ judged l.form l.line)
