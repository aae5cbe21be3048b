-- `lay_number` meets its contract: the byte is laid behind the decimal.
use Rattle.listing.proofs.Laws.Puts.{then}
use Rattle.listing.proofs.text.lay_number.Goals as goal

pub returns : goal.returns
returns c = then c.lay_decimal-end.ensures c.lay_byte.ensures
