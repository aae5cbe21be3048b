-- `resume::put_first`: one record more.
use Rattle.std.proofs.Common.{arith}
use Rattle.spaces.specs.Space.{empty_space, recorded}
use Rattle.sheet.proofs.Laws.Row.{put_next}
use Rattle.sheet.proofs.resume.put_first.Goals as goal

pub loop-place-preserved : goal.loop-place-preserved
loop-place-preserved c =
    let a = c.args in
    rw c.loop-place.invariant (put_next recorded a.records.now a.places.now c.loop-place.place empty_space empty_space (omega arith) (omega arith))
