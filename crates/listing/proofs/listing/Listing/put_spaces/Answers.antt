-- `put_spaces` meets its contract: one space more is one line more.
use Rattle.std.proofs.Common.{◌<◌, length, arith}
use Rattle.listing.proofs.Laws.Lines.{lines_more, put_more}
use Rattle.listing.proofs.listing.Listing.put_spaces.Goals as goal

pub loop-x-preserved : goal.loop-x-preserved
loop-x-preserved c =
    let i = c.loop-x.x-index in
    let spaces = c.args.spaces.now in
    let h : i < length spaces = omega arith in
    rw (lines_more spaces i h) (put_more c.loop-x.invariant c.put_space.ensures)
