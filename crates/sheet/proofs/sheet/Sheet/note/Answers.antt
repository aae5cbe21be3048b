-- `Sheet::note` meets its contract.
use Rattle.std.proofs.Common.{◌≡◌, length, arith, rules}
use Rattle.sheet.proofs.Laws.Changes.{noted_behind, noted_full}
use Rattle.sheet.proofs.sheet.Sheet.note.Goals as goal

pub returns-then-self-lt-OPEN_PLACES : goal.returns-then-self-lt-OPEN_PLACES
returns-then-self-lt-OPEN_PLACES c = rw c.from-latest.ensures (noted_behind c.args.self.now c.args.change (search rules) c.if-self-lt-OPEN_PLACES.true)

pub returns-else-self-lt-OPEN_PLACES : goal.returns-else-self-lt-OPEN_PLACES
returns-else-self-lt-OPEN_PLACES c =
    let s = c.args.self.now in
    let changes : length s.changes ≡ 64 = search rules in
    let full : s.undoable ≡ 64 = omega (arith, c.requires.undoable, c.if-self-lt-OPEN_PLACES.false) in
    rw (c.copy_within.ensures.after, changes, c.from-latest.ensures) (noted_full s c.args.change changes full)
