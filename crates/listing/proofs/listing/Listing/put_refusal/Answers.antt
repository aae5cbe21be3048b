-- `put_refusal` meets its contract: its words are put one behind the other.
use Rattle.std.proofs.Common.{[], ◌∷◌, ◌++◌, arith, rules}
use Prim.Native.Char.{code}
use Rattle.listing.specs.Text.{decimal}
use Rattle.listing.specs.Lines.{refusal_line}
use Rattle.listing.specs.Handed.{Put}
use Rattle.listing.proofs.Laws.Decimal.{number_short}
use Rattle.listing.proofs.Laws.Lines.{refusal_length}
use Rattle.listing.proofs.Laws.Puts.{then, then_behind, same_number}
use Rattle.listing.proofs.listing.Listing.put_refusal.Goals.{After-put_number}
use Rattle.listing.proofs.listing.Listing.put_refusal.Goals as goal

number_put : (c : After-put_number) → Put c.put_bytes.new.self (decimal c.args.number ++ (code " " ∷ [])) c.put_number.new.self
number_put c = same_number (code " ") c.from.ensures c.put_number.ensures

pub put_number-requires : goal.put_number-requires
put_number-requires c =
    rw c.from.ensures (omega (arith, number_short 2 c.args.number (code " ") (search rules)))

pub put_number-requires-2 : goal.put_number-requires-2
put_number-requires-2 c =
    let a = c.args in
    omega (arith, (number_put (goal.at.put_number-requires-2 c).After-put_number).size, number_short 2 a.number (code " ") (search rules), number_short 19 a.position (code "\n") (search rules))

pub returns : goal.returns
unfolding refusal_line
returns c =
    let a = c.args in
    let n = number_short 2 a.number (code " ") (search rules) in
    let p = number_short 19 a.position (code "\n") (search rules) in
    record {
      put =
          then c.put_bytes.ensures
          (then_behind (decimal a.number) (code " ") (number_put (goal.at.returns c).After-put_number) c.put_number-2.ensures);
      short = omega (arith, refusal_length a.number a.position, n, p);
    }
