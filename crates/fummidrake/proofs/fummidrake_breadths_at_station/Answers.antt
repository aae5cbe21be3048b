-- `fummidrake_breadths_at_station` meets its contract: the code's kind is the definition's.
use Rattle.std.proofs.Common.{ap, ◌∙◌}
use Rattle.measure.specs.Volumes.{hundredths}
use Rattle.measure.specs.Offsets.{breadths_at_station}
use Rattle.measure.specs.declared.kinds.Kind.{Kind}
use Rattle.fummidrake.proofs.fummidrake_breadths_at_station.Goals as goal

pub returns : goal.returns
returns c = c.breadths_at_station.ensures ∙ ap (λ (k : Kind). breadths_at_station k (hundredths c.args.middle)) c.kind_of.ensures
