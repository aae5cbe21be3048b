-- `words::marks` meets its contract: a byte more is a mark more, or none.
use Rattle.std.proofs.Common.{arith}
use Rattle.script.proofs.Laws.Parts.{marks_found, marks_passed}
use Rattle.script.proofs.words.marks.Goals.{then-byte-mark, else-byte-mark}
use Rattle.script.proofs.words.marks.Goals as goal

pub loop-byte-preserved : goal.loop-byte-preserved
loop-byte-preserved c =
    let l = c.loop-byte in
    let text = c.args.text.now in
    elim c.if-byte-mark.branch [
      | then-byte-mark w ↦ record {
        counted = omega (arith, w.n-is, l.invariant.counted, marks_found c.args.mark text l.byte-index (omega arith) w.if-byte-mark.true);
        few = omega (arith, w.n-is, l.invariant.few);
      }
      | else-byte-mark w ↦ record {
        counted = omega (arith, w.n-is, l.invariant.counted, marks_passed c.args.mark text l.byte-index (omega arith) w.if-byte-mark.false);
        few = omega (arith, w.n-is, l.invariant.few);
      }
    ]
