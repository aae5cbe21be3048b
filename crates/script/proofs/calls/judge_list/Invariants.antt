-- `calls::judge_list` meets its contract. The loop's invariant: the numbers from here on are judged as all are.
use Rattle.std.proofs.Common.{◌≡◌, drop, length}
use Rattle.script.specs.Words.{parts_of}
use Rattle.script.specs.Calls.{judged_numbers, judged_list}
use Rattle.script.proofs.calls.judge_list.Given as goal

abbrev pub invariant-loop-number : goal.invariant-loop-number
invariant-loop-number l =
    judged_numbers (drop (length l.yielded) (parts_of 44 l.list)) ≡ judged_list l.list
