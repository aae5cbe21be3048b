-- `put_hundredths` meets its contract: whole number, point, two digits and the byte are laid one behind the other.
use Rattle.std.proofs.Common.{◌/◌, append_assoc, arith}
use Prim.Native.Char.{code}
use Rattle.listing.specs.Text.{decimal, hundredths}
use Rattle.listing.proofs.Laws.Decimal.{hundredths_length}
use Rattle.listing.proofs.Laws.Puts.{then, then_behind}
use Rattle.listing.proofs.listing.Listing.put_hundredths.Goals as goal

pub lay_number-tenths-requires : goal.lay_number-tenths-requires
lay_number-tenths-requires c =
    let a = c.args in
    omega (arith, hundredths_length a.number a.behind)

pub lay_digit-last-requires : goal.lay_digit-last-requires
lay_digit-last-requires c =
    let a = c.args in
    omega (arith, hundredths_length a.number a.behind)

pub lay_digit-end-requires : goal.lay_digit-end-requires
lay_digit-end-requires c =
    let a = c.args in
    omega (arith, hundredths_length a.number a.behind)

pub lay_byte-self-requires : goal.lay_byte-self-requires
lay_byte-self-requires c =
    let a = c.args in
    omega (arith, hundredths_length a.number a.behind)

pub returns : goal.returns
unfolding hundredths
returns c =
    let a = c.args in
    rw append_assoc
    (then_behind (decimal (a.number / 100)) (code ".") c.lay_number-tenths.ensures
    (then c.lay_digit-last.ensures
    (then c.lay_digit-end.ensures
    c.lay_byte-self.ensures)))
