-- `Sheet::insert` meets its contract.
use Rattle.std.proofs.Common.{◌≡◌, length, rules, min, arith}
use native.Mathlib.Nat.{min-le_right}
use Rattle.sheet.proofs.Laws.Changes.{place_in, place_in_too_many}
use Rattle.sheet.proofs.Laws.Row.{moved_up}
use Rattle.sheet.proofs.sheet.Sheet.insert.Goals as goal

pub returns-then-count-lt-PLACES : goal.returns-then-count-lt-PLACES
returns-then-count-lt-PLACES c =
    let a = c.args in
    let s = a.self.now in
    let full : length s.spaces ≡ 200 = search rules in
    let below = min-le_right a.p s.count in
    rw (c.copy_within.ensures.after, c.min-at.ensures, moved_up s.spaces (min a.p s.count) s.count a.x below (omega (arith, full)))
    (place_in s c.requires (search rules) a.p a.x c.if-count-lt-PLACES.true)

pub returns-else-count-lt-PLACES : goal.returns-else-count-lt-PLACES
returns-else-count-lt-PLACES c = place_in_too_many c.args.self.now c.requires (search rules) c.args.p c.args.x c.if-count-lt-PLACES.false
