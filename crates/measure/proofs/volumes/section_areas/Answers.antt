-- `volumes::section_areas` meets its contract: the depth and the breadths of a turn are the first of those left.
use Rattle.std.proofs.Common.{◌≡◌, ◌∷◌, ◌++◌, ◌+◌, ◌∙◌, ℕ, ap, sym, subst, length, Some, arith, take, set, List, length-set}
use Rattle.std.specs.Iterator.Adapters.{enumerate_source, enumerate_count, zip_first, zip_second, enumerate_steps, zip_steps}
use Rattle.std.specs.Slice.Iter.{iter_rest, iter_steps, chunks_exact_rest, chunks_exact_steps}
use Rattle.measure.specs.Volumes.{areas}
use Rattle.measure.specs.Handed.{SectionsHanded}
use Rattle.measure.proofs.Laws.Lists.{store_step}
use Rattle.measure.proofs.Laws.Volumes.{first_handed, area_first}
use Rattle.measure.proofs.volumes.section_areas.Goals.{In-Some}
use Rattle.measure.proofs.volumes.section_areas.Goals as goal

-- what this turn took off
turn : (c : In-Some)
    → enumerate_steps (zip_steps (iter_steps {A = ℕ}) (chunks_exact_steps {A = ℕ})) c.loop-i.i-iterator (Some (c.in-Some.i, (c.in-Some.depth, c.in-Some.of_section))) c.next.new.self
turn c = subst (λ r. enumerate_steps (zip_steps (iter_steps {A = ℕ}) (chunks_exact_steps {A = ℕ})) c.loop-i.i-iterator r c.next.new.self) c.in-Some.is c.next.ensures.steps

-- the sections left before it, by the one taken off
left : (c : In-Some)
    → (let both = enumerate_source c.next.new.self in SectionsHanded c.args.m (c.in-Some.depth.now ∷ iter_rest (zip_first both)) (c.in-Some.of_section.now ++ chunks_exact_rest (zip_second both)))
left c =
    let here = turn c in
    let before = enumerate_source c.loop-i.i-iterator in
    let after = enumerate_source c.next.new.self in
    let ds = c.in-Some.depth.now ∷ iter_rest (zip_first after) in
    subst (SectionsHanded c.args.m ds) here.0.1.1.0
    (subst (λ (l : List ℕ). SectionsHanded c.args.m l (chunks_exact_rest (zip_second before))) here.0.0 c.loop-i.invariant.3)

pub station_area-requires : goal.station_area-requires
station_area-requires c =
    let here = turn (goal.at.station_area-requires c).In-Some in
    (first_handed c.in-Some.of_section.now (here.0.1.1.1 ∙ c.loop-i.invariant.2) (left (goal.at.station_area-requires c).In-Some)).0

pub loop-i-preserved : goal.loop-i-preserved
loop-i-preserved c =
    let d = (goal.at.loop-i-preserved c).In-Some in
    let here = turn d in
    let inv = c.loop-i.invariant in
    let both = enumerate_source c.next.new.self in
    let ds = iter_rest (zip_first both) in
    let bs = chunks_exact_rest (zip_second both) in
    let size = here.0.1.1.1 ∙ inv.2 in
    let count : enumerate_count c.loop-i.i-iterator + length (c.in-Some.depth.now ∷ ds) ≡ length c.args.depths.now =
    subst (λ l. enumerate_count c.loop-i.i-iterator + length l ≡ length c.args.depths.now) here.0.0 inv.1 in
    let i = c.in-Some.i in
    let area = c.station_area.result in
    let before = enumerate_source c.loop-i.i-iterator in
    let found : take i c.loop-i.found ++ areas c.args.m (c.in-Some.depth.now ∷ ds) (c.in-Some.of_section.now ++ bs) ≡ areas c.args.m c.args.depths.now c.args.breadths.now =
    subst (λ (l : List ℕ). take i c.loop-i.found ++ areas c.args.m (c.in-Some.depth.now ∷ ds) l ≡ areas c.args.m c.args.depths.now c.args.breadths.now) here.0.1.1.0
    (subst (λ (l : List ℕ). take i c.loop-i.found ++ areas c.args.m l (chunks_exact_rest (zip_second before)) ≡ areas c.args.m c.args.depths.now c.args.breadths.now) here.0.0
    (subst (λ (k : ℕ). take k c.loop-i.found ++ areas c.args.m (iter_rest (zip_first before)) (chunks_exact_rest (zip_second before)) ≡ areas c.args.m c.args.depths.now c.args.breadths.now) (sym here.1) inv.4)) in (
      length-set c.loop-i.found c.in-Some.i c.station_area.result ∙ inv.0,
      omega (arith, here.2, count),
      here.0.1.0 ∙ inv.2,
      (first_handed c.in-Some.of_section.now size (left d)).1,
      ap (λ (k : ℕ). take k (set c.loop-i.found i area) ++ areas c.args.m ds bs) (here.2 ∙ ap (λ (k : ℕ). k + 1) (sym here.1))
          ∙ store_step c.loop-i.found i area (areas c.args.m ds bs) (omega (arith, inv.0, here.1, count, c.requires.few))
          ∙ ap (λ (l : List ℕ). take i c.loop-i.found ++ l) (ap (λ (x : ℕ). x ∷ areas c.args.m ds bs) c.station_area.ensures ∙ sym (area_first c.args.m c.in-Some.depth.now ds c.in-Some.of_section.now bs size))
          ∙ found,
    )
