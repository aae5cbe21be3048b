-- `lay_decimal` meets its contract: the digits before the last are those of its tenth.
use Rattle.std.proofs.Common.{◌≤◌, arith}
use Rattle.listing.proofs.Laws.Decimal.{decimal_one, decimal_more, decimal_length}
use Rattle.listing.proofs.Laws.Puts.{then}
use Rattle.listing.proofs.text.+lay_decimal.Goals as goal

pub lay_digit-requires : goal.lay_digit-requires
lay_digit-requires t c = rw (decimal_one c.args.number c.if-number-lt10.true) at c.requires

pub returns-then-number-lt10 : goal.returns-then-number-lt10
returns-then-number-lt10 t c = rw (decimal_one c.args.number c.if-number-lt10.true) c.lay_digit.ensures

pub lay_decimal-last-requires : goal.lay_decimal-last-requires
lay_decimal-last-requires t c =
    let n = c.args.number in
    let h : 10 ≤ n = c.if-number-lt10.false in
    (omega arith, omega (arith, c.requires, decimal_length n h))

pub lay_digit-requires-2 : goal.lay_digit-requires-2
lay_digit-requires-2 t c =
    let n = c.args.number in
    let h : 10 ≤ n = c.if-number-lt10.false in
    omega (arith, c.requires, decimal_length n h, c.lay_decimal-last.ensures.size)

pub returns : goal.returns
returns t c =
    let n = c.args.number in
    let h : 10 ≤ n = c.if-number-lt10.false in
    rw (decimal_more n h) (then c.lay_decimal-last.ensures c.lay_digit-2.ensures)
