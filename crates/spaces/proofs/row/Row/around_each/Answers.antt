-- `around::Row::around_each` meets its contract.
use Rattle.std.proofs.Common.{◌≡◌, ◌∙◌, ◌<◌, length, get_or, arith, cond, ltb, sym, ap, ap₂, set, take, List, lt-ltb, le-ltb}
use Rattle.spaces.specs.Space.{empty_space}
use Rattle.spaces.specs.Row.{place_of}
use Rattle.spaces.specs.Enclosure.{upward, walked}
use Rattle.spaces.specs.Around.{around_of, enclosing_place}
use Rattle.spaces.specs.declared.around.Around.{Around}
use Rattle.spaces.proofs.Laws.Around.{nothing_summed, one_summed, gathered, around_first, around_more, around_all}
use Rattle.spaces.proofs.row.Row.around_each.Goals as goal
use Rattle.spaces.proofs.row.Row.around_each.Goals.{then-home-i, else-home-i}

pub loop-i-init : goal.loop-i-init
loop-i-init c = record { told = rw c.blank_around-all.ensures; summed = nothing_summed c.args.self.spaces.now c.args.self.few }

pub overflow_add-inside : goal.overflow_add-inside
overflow_add-inside c = omega (arith, c.loop-i.invariant.summed.rooms_bounded c.place-home.result (omega arith), c.share.ensures.1)

pub loop-i-preserved : goal.loop-i-preserved
loop-i-preserved c =
    let xs = c.args.self.spaces.now in
    let i = c.loop-i.i in
    let at : i < length xs = omega arith in
    let home = c.place-home.result in
    let so = c.loop-i.invariant in
    let same = c.of-index.ensures in
    let homes = c.of-homes.ensures ∙ same in
    let its_home = c.place-home.ensures.place ∙ ap (λ ys. enclosing_place ys (get_or ys i empty_space)) homes in
    let beside : c.if-home-i.beside ≡ cond (ltb home i) (get_or c.loop-i.inside home 0) c.loop-i.lengths =
    elim c.if-home-i.branch [
      | then-home-i w ↦ w.beside-is ∙ sym (simp (lt-ltb home i w.if-home-i.true))
      | else-home-i w ↦ w.beside-is ∙ sym (simp (le-ltb home i w.if-home-i.false))
    ] in
    let told : Around = record { taken = ltb c.place_of.result i; home = c.min.result; levels = c.walk-up.result.levels; plain = c.walk-up.result.plain; beside = c.if-home-i.beside } in
    let known : told ≡ around_of (take i xs) (get_or xs i empty_space) =
    rw (c.min.ensures, beside)
    (gathered xs i at home c.place_of.result c.walk-up.result its_home
    (c.place_of.ensures ∙ ap (place_of (get_or xs i empty_space).id) same)
    (c.walk-up.ensures.met
    ∙ ap₂ (λ ys k. walked (upward 8 (take k ys) (get_or ys i empty_space))) (c.first.ensures.all ∙ homes) c.first.ensures.so_many)
    c.loop-i.inside c.loop-i.lengths so.summed) in
    record {
      told = ap (λ (row : List Around). set row i told) so.told ∙ ap (set (around_first xs i) i) known ∙ around_more xs i at c.args.self.few;
      summed = one_summed xs i c.loop-i.inside c.loop-i.lengths so.summed at c.args.self.few home its_home
          c.share.result c.share.ensures.0 c.share-lengths.result c.share-lengths.ensures.0 c.share.ensures.1 c.share-lengths.ensures.1;
    }

pub returns : goal.returns
returns c = c.loop-i.invariant.told ∙ around_all c.args.self.spaces.now c.loop-i.i (omega arith)
