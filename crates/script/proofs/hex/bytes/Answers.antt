-- `hex::bytes` meets its contract.
use Rattle.std.proofs.Common.{◌≡◌, ◌<◌, sym, ap, ◌∙◌, rules, arith, length, length-append, length-take, set, take, get_or, ◌+◌, ◌*◌, ℕ}
use Rattle.std.proofs.lemmas.Iterator.{YieldsList-from_take}
use Rattle.std.proofs.lemmas.Iterator.Consumers.{YieldsList-from_enumerate, YieldsList-turn, YieldsList-end}
use Rattle.std.proofs.lemmas.List.FromFn.{length-enumerate_from}
use Rattle.script.specs.Laid.{fitting}
use Rattle.script.specs.Hex.{bytes_of}
use Rattle.script.proofs.Laws.Laid.{begun, listed, laid_more, all_laid}
use Rattle.script.proofs.Laws.Hex.{pairs_of, pairs_yielded, pairs_length, pair_length, byte_read, bytes_length}
use Rattle.script.proofs.hex.bytes.Goals as goal
use Rattle.script.proofs.hex.bytes.Goals.{In-Some}

-- the pair of this turn, by its place
pair_passed : (c : In-Some)
    → (c.in-Some.place ≡ length c.loop-place.yielded)
    × (length c.loop-place.yielded < c.min-n.result)
    × (length c.loop-place.yielded < length (pairs_of c.args.digits.now))
    × (c.in-Some.pair.now ≡ get_or (pairs_of c.args.digits.now) (length c.loop-place.yielded) c.in-Some.pair.now)
pair_passed c =
    let l = c.loop-place in
    let digits = c.args.digits.now in
    let turn = YieldsList-turn (YieldsList-from_enumerate {s = c.into_iter-place-iterator.result} (YieldsList-from_take c.min-n.result (pairs_yielded digits (search rules) (search rules)) (search rules)) (search rules))
    l.yielded l.place-iterator l.yielded_by c.next.result c.next.new.self (c.in-Some.place, c.in-Some.pair) c.in-Some.is c.next.ensures.steps in
    listed (pairs_of digits) c.min-n.result c.in-Some.place (length l.yielded) c.in-Some.pair.now turn

pub bounds-pair-1 : goal.bounds-pair-1
bounds-pair-1 c =
    let here = pair_passed (goal.at.bounds-pair-1 c).In-Some in
    omega (arith, pair_length c.args.digits.now (length c.loop-place.yielded) c.in-Some.pair.now here.2 here.3)

pub bounds-into-place : goal.bounds-into-place
bounds-into-place c =
    let here = pair_passed (goal.at.bounds-into-place c).In-Some in
    omega (arith, here.0, here.1, c.min-n.ensures)

pub loop-place-preserved : goal.loop-place-preserved
loop-place-preserved c =
    let l = c.loop-place in
    let digits = c.args.digits.now in
    let here = pair_passed (goal.at.loop-place-preserved c).In-Some in
    let into = c.args.into.now in
    let value = c.digit_value.result * 16 + c.digit_value-in-loop-place.result in
    let byte : value ≡ get_or (bytes_of digits) (length l.yielded) 0 =
    rw (c.digit_value.ensures.0, c.digit_value-in-loop-place.ensures.0) (byte_read digits (length l.yielded) c.in-Some.pair.now here.2 here.3) in
    ap (λ (k : ℕ). set l.into k value) here.0
    ∙ laid_more (bytes_of digits) into (length l.yielded) value l.invariant (omega (arith, here.2, pairs_length digits)) (omega (arith, here.1, c.min-n.ensures)) byte
    ∙ ap (λ (k : ℕ). begun (bytes_of digits) k into) (sym (length-append l.yielded _))

pub returns-clause-value : goal.returns-clause-value
returns-clause-value c = omega (arith, c.min-n.ensures, bytes_length c.args.digits.now)

pub returns-clause-into_after : goal.returns-clause-into_after
returns-clause-into_after c =
    let l = c.loop-place in
    let digits = c.args.digits.now in
    let ended = YieldsList-end (YieldsList-from_enumerate {s = c.into_iter-place-iterator.result} (YieldsList-from_take c.min-n.result (pairs_yielded digits (search rules) (search rules)) (search rules)) (search rules))
    l.yielded l.place-iterator l.yielded_by c.next.result c.next.new.self c.in-None.is c.next.ensures.steps in
    let all : length l.yielded ≡ fitting (bytes_of digits) c.args.into.now =
    omega (arith, c.min-n.ensures, ended.1, length-enumerate_from 0 (take c.min-n.result (pairs_of digits)), length-take c.min-n.result (pairs_of digits), pairs_length digits, bytes_length digits) in
    all_laid (bytes_of digits) c.args.into.now (length l.yielded) all l.invariant
