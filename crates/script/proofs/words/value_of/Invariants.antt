-- `words::value_of` meets its contract. The loop's invariant: the digits left, behind the value so far, have the value of all.
use Rattle.std.proofs.Common.{◌≤◌, ◌≡◌, true, false, drop}
use Rattle.script.specs.Words.{all_digits, value_behind}
use Rattle.script.proofs.words.value_of.Given as goal

abbrev pub invariant-loop-digit : goal.invariant-loop-digit
invariant-loop-digit l =
    (l.value ≤ 18446744073709551615)
    × (all_digits false (drop l.digit-index l.digits) ≡ true)
    × (value_behind l.value (drop l.digit-index l.digits) ≡ value_behind 0 l.digits)
