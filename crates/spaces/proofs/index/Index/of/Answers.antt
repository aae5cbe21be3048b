-- `index::Index::of` meets its contract: each place is laid where the index reaches its id.
use Rattle.std.proofs.Common.{refl, ◌-◌, arith}
use Rattle.spaces.proofs.Laws.Index.{none_indexed, not_reached}
use Rattle.spaces.proofs.index.Index.of.Goals as goal

pub loop-place-init : goal.loop-place-init
loop-place-init c = record { reach = refl; laid = none_indexed c.args.row.spaces.now 10000 }

pub loop-place-preserved : goal.loop-place-preserved
loop-place-preserved c =
    let so = c.loop-place.invariant in
    record {
      reach = so.reach;
      laid = not_reached c.args.row.spaces.now c.loop-place.places c.loop-place.place (c.loop-place.place - 1) (omega arith) (omega arith) so.laid
          c.from-id.result c.from-id.ensures (omega arith);
    }
