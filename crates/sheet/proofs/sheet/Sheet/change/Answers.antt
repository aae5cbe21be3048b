-- `Sheet::change` meets its contract.
use Rattle.sheet.proofs.Laws.Sheet.{fitted_open}
use Rattle.sheet.proofs.sheet.Sheet.change.Goals as goal

pub note-requires : goal.note-requires
note-requires c = rw c.make.ensures (fitted_open _ _ c.requires)
