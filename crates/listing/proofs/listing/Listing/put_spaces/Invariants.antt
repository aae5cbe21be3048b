-- `put_spaces` meets its contract: the lines of the spaces passed have been put.
use Rattle.std.proofs.Common.{take}
use Rattle.listing.specs.Lines.{space_lines}
use Rattle.listing.specs.Handed.{PutLines}
use Rattle.listing.proofs.listing.Listing.put_spaces.Given as goal

abbrev pub invariant-loop-x : goal.invariant-loop-x
invariant-loop-x l = PutLines l.initial.self (space_lines (take l.x-index l.spaces)) l.x-index l.self
