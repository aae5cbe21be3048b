-- `hex::digits` meets its contract.
use Rattle.std.proofs.Common.{ℕ, ◌≡◌, ◌<◌, ◌+◌, ◌*◌, ◌/◌, ◌%◌, ◌∙◌, ap, sym, arith, length, take, length-take, get_or-take}
use Rattle.script.specs.Laid.{fitting}
use Rattle.script.specs.Hex.{hex_digit, hex_fitting}
use Rattle.script.proofs.Laws.Laid.{begun, laid_more, all_laid}
use Rattle.script.proofs.Laws.Hex.{hex_length, digits_written}
use Rattle.script.proofs.hex.digits.Goals as goal

pub loop-i-preserved : goal.loop-i-preserved
loop-i-preserved c =
    let l = c.loop-i in
    let into = c.args.into.now in
    let most = length into / 2 in
    let bytes = take most c.args.bytes.now in
    let values = hex_fitting c.args.bytes.now into in
    let within : l.i < c.min-n.result = omega (arith, length-take c.min-n.result c.args.bytes.now) in
    let here : l.i < length bytes = omega (arith, c.min-n.ensures, length-take most c.args.bytes.now) in
    let byte = get_or-take c.min-n.result c.args.bytes.now l.i 0 within ∙ sym (get_or-take most c.args.bytes.now l.i 0 (omega (arith, c.min-n.ensures))) in
    let written = digits_written bytes l.i here in
    let high = laid_more values into (2 * l.i) c.hex_digit.result l.invariant (omega (arith, hex_length bytes)) (omega (arith, c.min-n.ensures))
    (c.hex_digit.ensures ∙ ap (λ (b : ℕ). hex_digit (b / 16)) byte ∙ written.0) in
    let low = laid_more values into (2 * l.i + 1) c.hex_digit-in-loop-i.result high (omega (arith, hex_length bytes)) (omega (arith, c.min-n.ensures))
    (c.hex_digit-in-loop-i.ensures ∙ ap (λ (b : ℕ). hex_digit (b % 16)) byte ∙ written.1) in
    let next : 2 * l.i + 1 + 1 ≡ 2 * (l.i + 1) = omega arith in
    low ∙ ap (λ (n : ℕ). begun values n into) next

pub returns-clause-value : goal.returns-clause-value
returns-clause-value c = omega (arith, c.min-n.ensures, hex_length (take (length c.args.into.now / 2) c.args.bytes.now), length-take (length c.args.into.now / 2) c.args.bytes.now)

pub returns-clause-into_after : goal.returns-clause-into_after
returns-clause-into_after c =
    let values = hex_fitting c.args.bytes.now c.args.into.now in
    let n : 2 * c.loop-i.i ≡ fitting values c.args.into.now =
    omega (arith, c.min-n.ensures, length-take c.min-n.result c.args.bytes.now, hex_length (take (length c.args.into.now / 2) c.args.bytes.now), length-take (length c.args.into.now / 2) c.args.bytes.now) in
    all_laid values c.args.into.now (2 * c.loop-i.i) n c.loop-i.invariant
