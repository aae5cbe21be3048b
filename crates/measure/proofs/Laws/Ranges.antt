-- Laws of the ranges: the greatest measure.
use Rattle.std.proofs.Common.{◌≡◌, true, List, [], ◌∷◌, ℕ, ◌≤◌, leb-true, leb}
use Rattle.measure.specs.Ranges.{includes, includes_all}
use Rattle.measure.specs.Handed.{AllAtMost, none, more}
use Rattle.measure.specs.declared.ranges.Range.{Range}
use Rattle.measure.proofs.Laws.Tests.{and_left, and_right}

pub includes_most : (r : Range) (x : ℕ) → includes r x ≡ true → x ≤ r.most
unfolding includes
includes_most r x e = leb-true x r.most (and_right (leb r.least x) (leb x r.most) e)

pub all_at_most : (r : Range) (xs : List ℕ) → includes_all r xs ≡ true → AllAtMost r.most xs
all_at_most r [] e = none
all_at_most r (x ∷ xs) e =
    more (includes_most r x (and_left (includes r x) (includes_all r xs) e)) (all_at_most r xs (and_right (includes r x) (includes_all r xs) e))
