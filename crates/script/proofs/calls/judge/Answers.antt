-- `calls::judge` meets its contract: the first word that doesn't fit is judged as all are.
use Rattle.std.proofs.Common.{◌≡◌, ◌+◌, sym, ◌∙◌, rules, tests, length, length-append, drop, eqb}
use Rattle.std.proofs.lemmas.Iterator.{YieldsList-from_zip}
use Rattle.std.proofs.lemmas.Iterator.Adapters.{YieldsList-from_skip}
use Rattle.std.proofs.lemmas.Iterator.Consumers.{YieldsList-turn, YieldsList-end}
use Rattle.std.proofs.lemmas.Iterator.Splits.{YieldsList-from_slice_split}
use Rattle.script.specs.Words.{words_of}
use Rattle.script.specs.Calls.{Judged, or_else, judged_words, judged}
use Rattle.script.proofs.Laws.Calls.{words_ahead, words_ended}
use Rattle.script.proofs.calls.judge.Goals as goal
use Rattle.script.proofs.calls.judge.Goals.{After-judge_word}

-- a word's judgement, then what those behind it give
one_judged : (c : After-judge_word) (told : Judged) → c.judge_word.result ≡ told
    → or_else told (judged_words (drop (length c.loop-asked.yielded + 1 + 1) (words_of c.args.form.now)) (drop (length c.loop-asked.yielded + 1 + 1) (words_of c.args.line.now)))
    ≡ judged c.args.form.now c.args.line.now
one_judged c told tells =
    let l = c.loop-asked in
    let line = c.args.line.now in
    let form = c.args.form.now in
    let turn = YieldsList-turn (YieldsList-from_skip {s = c.into_iter-asked-iterator.result} 1 (YieldsList-from_zip
    (YieldsList-from_slice_split _ (λ b. eqb b 32) form (search rules) (search rules) (search rules) (λ x r q k. search (rules, tests)))
    (YieldsList-from_slice_split _ (λ b. eqb b 32) line (search rules) (search rules) (search rules) (λ x r q k. search (rules, tests)))) (search rules))
    l.yielded l.asked-iterator l.yielded_by c.next.result c.next.new.self (c.in-Some.asked, c.in-Some.word) c.in-Some.is c.next.ensures.steps in
    sym (words_ahead form line l.invariant.0 (length l.yielded) c.in-Some.asked.now c.in-Some.word.now turn c.judge_word.ensures tells) ∙ l.invariant.1

pub returns-in_err-judge_word : goal.returns-in_err-judge_word
returns-in_err-judge_word c =
    let all = one_judged (goal.at.returns-in_err-judge_word c).After-judge_word _ c.in_err-judge_word.was in
    search (rules, all)

pub loop-asked-preserved : goal.loop-asked-preserved
loop-asked-preserved c =
    (c.loop-asked.invariant.0, rw length-append (one_judged (goal.at.loop-asked-preserved c).After-judge_word _ c.in_ok-judge_word.was))

pub returns : goal.returns
returns c =
    let l = c.loop-asked in
    let line = c.args.line.now in
    let form = c.args.form.now in
    let ended = YieldsList-end (YieldsList-from_skip {s = c.into_iter-asked-iterator.result} 1 (YieldsList-from_zip
    (YieldsList-from_slice_split _ (λ b. eqb b 32) form (search rules) (search rules) (search rules) (λ x r q k. search (rules, tests)))
    (YieldsList-from_slice_split _ (λ b. eqb b 32) line (search rules) (search rules) (search rules) (λ x r q k. search (rules, tests)))) (search rules))
    l.yielded l.asked-iterator l.yielded_by c.next.result c.next.new.self c.in-None.is c.next.ensures.steps in
    sym (words_ended form line l.invariant.0 (length l.yielded) ended.1) ∙ l.invariant.1
