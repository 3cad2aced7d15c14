use Rattle.cluster_metadata.proofs.accepted.ChangedNodes.{unregisters}
use Rattle.cluster_metadata.proofs.changes.command_change.change_at_once.Goals as goal

pub returns-in-Unregister-clause-change : goal.returns-in-Unregister-clause-change
returns-in-Unregister-clause-change c = unregisters _ _ _ c.in-Unregister.is c.requires.early
