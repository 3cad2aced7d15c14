use Rattle.transformation_laws.proofs.deltas.ChangedByCommands.{changes_by_deltas}
use Rattle.transformation_laws.proofs.validity.deltas_act.Goals as goal

pub returns : goal.returns
returns c = record { acts = changes_by_deltas }
