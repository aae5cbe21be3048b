-- The loop's invariant: the areas found and those of the depths and breadths that are left are all; each has its breadths left.
use Rattle.std.proofs.Common.{◌+◌, ◌≡◌, ◌++◌, length, take}
use Rattle.std.specs.Iterator.Adapters.{enumerate_source, enumerate_count, zip_first, zip_second}
use Rattle.std.specs.Slice.Iter.{iter_rest, chunks_exact_rest, chunks_exact_size}
use Rattle.measure.specs.Volumes.{areas}
use Rattle.measure.specs.Handed.{SectionsHanded}
use Rattle.measure.proofs.volumes.section_areas.Given as goal

abbrev pub invariant-loop-i : goal.invariant-loop-i
invariant-loop-i l =
    let both = enumerate_source l.i-iterator in
    let i = enumerate_count l.i-iterator in
    let ds = iter_rest (zip_first both) in
    let bs = chunks_exact_rest (zip_second both) in
    (length l.found ≡ 34)
    × (i + length ds ≡ length l.depths)
    × (chunks_exact_size (zip_second both) ≡ l.m + 1)
    × SectionsHanded l.m ds bs
    × (take i l.found ++ areas l.m ds bs ≡ areas l.m l.depths l.breadths)
