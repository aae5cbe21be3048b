-- What one more read took stands in the buffer behind what the reads before it took.
use Rattle.std.proofs.Common.{◌≡◌, ℕ, ◌+◌, ◌≤◌, List, ◌++◌, rules, length, take, sym, ap, ◌∙◌, subst, length-take-le}
use Rattle.std.proofs.Math.Seq.{take-append-add}
use Rattle.std.proofs.lemmas.List.{take-append-le}
use Rattle.std.proofs.KnownBytes.{Consumes-trans}
use Rattle.std.specs.Io.KnownBytes.{Consumes}
use borrow.Rule.Slice.PartMut.{put_mid, post_of}
use Rattle.input.proofs.read_full.Goals as goal

take_put_mid_more : (at room n : ℕ) (xs ys : List ℕ) → at ≤ length xs → n ≤ length ys
    → take at xs ++ take n ys ≡ take (at + n) (put_mid at room xs ys)
take_put_mid_more at room n xs ys within fits =
    let behind = ys ++ post_of at room xs in
    ap (λ (l : List ℕ). take at xs ++ l) (sym (take-append-le n ys _ fits))
    ∙ sym (take-append-add (take at xs) behind n)
    ∙ ap (λ (k : ℕ). take (k + n) (put_mid at room xs ys)) (length-take-le at xs within)

pub loop-n-preserved : goal.loop-n-preserved
loop-n-preserved g c =
    let so_far = c.loop-n.invariant in
    let more = c.in_ok-more.ensures in
    (search rules, subst (Consumes _ _) (take_put_mid_more _ _ _ _ _ so_far.0 more.bound.0) (Consumes-trans _ _ _ _ _ so_far.1 more.bytes.0))
