-- `fummidrake_stations` meets its contract: the code's kind is the definition's.
use Rattle.std.proofs.Common.{ap, ◌∙◌}
use Rattle.measure.specs.Volumes.{hundredths}
use Rattle.measure.specs.Offsets.{stations}
use Rattle.measure.specs.declared.kinds.Kind.{Kind}
use Rattle.fummidrake.proofs.fummidrake_stations.Goals as goal

pub returns : goal.returns
returns c = c.stations.ensures ∙ ap (λ (k : Kind). stations k (hundredths c.args.tonnage_length) (hundredths c.args.length)) c.kind_of.ensures
