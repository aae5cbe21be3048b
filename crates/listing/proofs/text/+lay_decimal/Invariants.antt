-- `lay_decimal` ends: the number falls with each call.
use Rattle.listing.proofs.text.+lay_decimal.Given as goal

abbrev pub decreases-lay_decimal : goal.decreases-lay_decimal
decreases-lay_decimal l = l.number
