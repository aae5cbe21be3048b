-- `put_figure` meets its contract: name, space and figure are put one behind the other.
use Rattle.std.proofs.Common.{arith, rules}
use Prim.Native.Char.{code}
use Rattle.listing.specs.Lines.{figure_line}
use Rattle.listing.proofs.Laws.Decimal.{hundredths_short}
use Rattle.listing.proofs.Laws.Lines.{figure_length}
use Rattle.listing.proofs.Laws.Puts.{then}
use Rattle.listing.proofs.listing.Listing.put_figure.Goals as goal

pub put_hundredths-requires : goal.put_hundredths-requires
put_hundredths-requires c =
    let a = c.args in
    omega (arith, hundredths_short 17 a.number (code "\n") (search rules))

pub returns : goal.returns
unfolding figure_line
returns c =
    let a = c.args in
    record {
      put = then c.put_bytes.ensures (then c.put_byte.ensures c.put_hundredths.ensures);
      short = omega (arith, figure_length a.name.now a.number, hundredths_short 17 a.number (code "\n") (search rules));
    }
