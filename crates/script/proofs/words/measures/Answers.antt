-- `words::measures` meets its contract.
use Rattle.std.proofs.Common.{ℕ, ◌∙◌, ap, sym, rules, tests, arith, length, length-append, set, List, [], ◌∷◌, eqb}
use Rattle.std.proofs.lemmas.Iterator.{YieldsList-from_take}
use Rattle.std.proofs.lemmas.Iterator.Consumers.{YieldsList-from_enumerate, YieldsList-turn, YieldsList-end}
use Rattle.std.proofs.lemmas.Iterator.Splits.{YieldsList-from_slice_split}
use Rattle.script.specs.Laid.{laid}
use Rattle.script.specs.Words.{measures_of}
use Rattle.script.proofs.Laws.Laid.{begun, none_laid, laid_more, all_laid}
use Rattle.script.proofs.Laws.Measures.{no_measures, all_passed, measure_listed}
use Rattle.script.proofs.words.measures.Goals as goal

pub returns-then-is_empty_list-clause-value : goal.returns-then-is_empty_list-clause-value
returns-then-is_empty_list-clause-value c =
    let none = no_measures c.args.list.now (sym c.is_empty_list.ensures ∙ c.if-is_empty_list.true) in
    omega (arith, ap length none)

pub returns-then-is_empty_list-clause-into_after : goal.returns-then-is_empty_list-clause-into_after
returns-then-is_empty_list-clause-into_after c =
    sym (ap (λ (l : List ℕ). laid l c.args.into.now) (no_measures c.args.list.now (sym c.is_empty_list.ensures ∙ c.if-is_empty_list.true)) ∙ none_laid c.args.into.now)

pub loop-place-preserved : goal.loop-place-preserved
loop-place-preserved c =
    let l = c.loop-place in
    let some = sym c.is_empty_list.ensures ∙ c.if-is_empty_list.false in
    let turn = YieldsList-turn (YieldsList-from_enumerate {s = c.into_iter-place-iterator.result} (YieldsList-from_take (length c.args.into.now) (YieldsList-from_slice_split _ (λ b. eqb b 44) c.args.list.now (search rules) (search rules) (search rules) (λ x r q k. search (rules, tests))) (search rules)) (search rules))
    l.yielded l.place-iterator l.yielded_by c.next.result c.next.new.self (c.in-Some.place, c.in-Some.number) c.in-Some.is c.next.ensures.steps in
    let listed = measure_listed c.args.list.now some (length c.args.into.now) c.in-Some.place (length l.yielded) c.in-Some.number.now turn in
    let into = c.args.into.now in
    let values = measures_of c.args.list.now in
    record {
      laid = ap (λ (k : ℕ). set l.into k c.measure_in.result) listed.0
          ∙ laid_more values into (length l.yielded) c.measure_in.result l.invariant.laid listed.2 (omega arith) (c.measure_in.ensures ∙ listed.3)
          ∙ ap (λ (k : ℕ). begun values k into) (sym (length-append l.yielded _));
      counted = omega (arith, listed.0, length-append l.yielded ((c.in-Some.place, c.in-Some.number) ∷ []));
    }

pub returns-clause-value : goal.returns-clause-value
returns-clause-value c =
    let l = c.loop-place in
    let list = c.args.list.now in
    let some = sym c.is_empty_list.ensures ∙ c.if-is_empty_list.false in
    l.invariant.counted
    ∙ all_passed list some c.args.into.now (length l.yielded) (YieldsList-end (YieldsList-from_enumerate {s = c.into_iter-place-iterator.result} (YieldsList-from_take (length c.args.into.now) (YieldsList-from_slice_split _ (λ b. eqb b 44) list (search rules) (search rules) (search rules) (λ x r q k. search (rules, tests))) (search rules)) (search rules))
    l.yielded l.place-iterator l.yielded_by c.next.result c.next.new.self c.in-None.is c.next.ensures.steps).1

pub returns-clause-into_after : goal.returns-clause-into_after
returns-clause-into_after c =
    let l = c.loop-place in
    all_laid (measures_of c.args.list.now) c.args.into.now (length l.yielded) (sym l.invariant.counted ∙ returns-clause-value c) l.invariant.laid
