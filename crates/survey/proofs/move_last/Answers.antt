-- A size is at most the buffer's.
use Rattle.std.proofs.Common.{arith, sym, length-take-le}
use Rattle.survey.proofs.move_last.Goals as goal

pub slice_bounds-buffer-end : goal.slice_bounds-buffer-end
slice_bounds-buffer-end g c = sym (length-take-le _ _ (omega (arith, c.size_in.ensures)))
