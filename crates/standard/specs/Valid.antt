-- A valid sheet: each of its records, in order, is accepted as an entry after those before it.
use Rattle.std.specs.Prelude.{◌≡◌, List, [], ◌∷◌, ◌++◌}
use Rattle.measure.specs.declared.units.Hundredths.{Hundredths}
use Rattle.standard.specs.Rules.{entry_number}
use Rattle.spaces.specs.declared.space.Space.{Space}

-- after the spaces `pre`, where L is the tonnage length
pub data ValidFrom (L : Hundredths) : List Space → List Space → Type 0 where
  done : {pre : List Space} → ValidFrom L pre []
  next : {pre : List Space} {x : Space} {xs : List Space} → entry_number L pre x ≡ 0 → ValidFrom L (pre ++ (x ∷ [])) xs → ValidFrom L pre (x ∷ xs)

abbrev pub Valid : Hundredths → List Space → Type 0
Valid L xs = ValidFrom L [] xs
