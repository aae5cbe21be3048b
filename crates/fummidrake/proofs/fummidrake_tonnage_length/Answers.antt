-- `fummidrake_tonnage_length` meets its contract: the number of the hundredths that `tonnage_length` answers.
use Rattle.std.proofs.Common.{ap}
use Rattle.measure.specs.declared.units.Hundredths.{Hundredths}
use Rattle.fummidrake.proofs.fummidrake_tonnage_length.Goals as goal

pub returns : goal.returns
returns c = ap (λ (l : Hundredths). l.0) c.tonnage_length.ensures
