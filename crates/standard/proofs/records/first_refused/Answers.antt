-- `records::first_refused` meets its contract.
use Rattle.std.proofs.Common.{◌≡◌, ℕ, ◌+◌, ◌<◌, List, length, take, get_or, sym, ap, ◌∙◌, arith, length-take-le}
use Rattle.spaces.specs.Space.{empty_space}
use Rattle.spaces.specs.Around.{blank_around}
use Rattle.spaces.specs.declared.around.Around.{Around}
use Rattle.spaces.proofs.Laws.Around.{around_at}
use Rattle.standard.specs.Records.{record_number}
use Rattle.standard.proofs.Laws.Records.{record_passed, record_refused, none_refused, record_number_is}
use Rattle.standard.proofs.records.first_refused.Goals.{After-record_number-number}
use Rattle.standard.proofs.records.first_refused.Goals as goal

-- the number is the definition's
number_is : (c : After-record_number-number)
    → (let xs = c.args.row.spaces.now in c.record_number-number.result ≡ record_number c.args.tonnage_length (take c.loop-i.i xs) (get_or xs c.loop-i.i empty_space))
number_is c =
    let xs = c.args.row.spaces.now in
    let i = c.loop-i.i in
    let at : i < length xs = omega arith in
    let few = c.args.row.few in
    let told = get_or c.around_each-all.result i blank_around in
    record_number_is c.args.tonnage_length (take i xs) (get_or xs i empty_space) c.space_at.result told
    (ap (λ (row : List Around). get_or row i blank_around) c.around_each-all.ensures ∙ around_at xs i at blank_around)
    c.space_at.ensures
    (omega (arith, length-take-le i xs (omega arith)))
    c.record_number-number.result
    c.record_number-number.ensures

pub returns-then-number-ne0 : goal.returns-then-number-ne0
returns-then-number-ne0 c =
    let xs = c.args.row.spaces.now in
    let here = number_is (goal.at.returns-then-number-ne0 c).After-record_number-number in
    let first = record_refused c.args.tonnage_length xs c.loop-i.i (omega arith) (λ z. c.if-number-ne0.true (here ∙ z)) in
    ap (λ (k : ℕ). record { number = k; position = c.loop-i.i + 1 }) here ∙ sym first ∙ c.loop-i.invariant

pub loop-i-preserved : goal.loop-i-preserved
loop-i-preserved c =
    let here = number_is (goal.at.loop-i-preserved c).After-record_number-number in
    sym (record_passed c.args.tonnage_length c.args.row.spaces.now c.loop-i.i (omega arith) (sym here ∙ c.if-number-ne0.false)) ∙ c.loop-i.invariant

pub returns : goal.returns
returns c = sym (none_refused c.args.tonnage_length c.args.row.spaces.now c.loop-i.i (omega arith)) ∙ c.loop-i.invariant
