-- `calls::judge_list` meets its contract: the first number that is none is judged as all are.
use Rattle.std.proofs.Common.{◌≡◌, ◌+◌, sym, ◌∙◌, rules, tests, length, length-append, drop, eqb}
use Rattle.std.proofs.lemmas.Iterator.Consumers.{YieldsList-turn, YieldsList-end}
use Rattle.std.proofs.lemmas.Iterator.Splits.{YieldsList-from_slice_split}
use Rattle.script.specs.Words.{parts_of}
use Rattle.script.specs.Calls.{Judged, or_else, judged_numbers, judged_list}
use Rattle.script.proofs.Laws.Calls.{numbers_ahead, numbers_ended}
use Rattle.script.proofs.calls.judge_list.Goals as goal
use Rattle.script.proofs.calls.judge_list.Goals.{After-judge_number}

-- a number's judgement, then what those behind it give
one_judged : (c : After-judge_number) (told : Judged) → c.judge_number.result ≡ told
    → or_else told (judged_numbers (drop (length c.loop-number.yielded + 1) (parts_of 44 c.args.list.now))) ≡ judged_list c.args.list.now
one_judged c told tells =
    let l = c.loop-number in
    let turn = YieldsList-turn (YieldsList-from_slice_split {s = c.into_iter-number-iterator.result} _ (λ b. eqb b 44) c.args.list.now (search rules) (search rules) (search rules) (λ x r q k. search (rules, tests)))
    l.yielded l.number-iterator l.yielded_by c.next.result c.next.new.self c.in-Some.number c.in-Some.is c.next.ensures.steps in
    sym (numbers_ahead c.args.list.now (length l.yielded) c.in-Some.number.now turn c.judge_number.ensures tells) ∙ l.invariant

pub returns-in_err-judge_number : goal.returns-in_err-judge_number
returns-in_err-judge_number c =
    let all = one_judged (goal.at.returns-in_err-judge_number c).After-judge_number _ c.in_err-judge_number.was in
    search (rules, all)

pub loop-number-preserved : goal.loop-number-preserved
loop-number-preserved c = rw length-append (one_judged (goal.at.loop-number-preserved c).After-judge_number _ c.in_ok-judge_number.was)

pub returns : goal.returns
returns c =
    let l = c.loop-number in
    let ended = YieldsList-end (YieldsList-from_slice_split {s = c.into_iter-number-iterator.result} _ (λ b. eqb b 44) c.args.list.now (search rules) (search rules) (search rules) (λ x r q k. search (rules, tests)))
    l.yielded l.number-iterator l.yielded_by c.next.result c.next.new.self c.in-None.is c.next.ensures.steps in
    sym (numbers_ended c.args.list.now (length l.yielded) ended.1) ∙ l.invariant
