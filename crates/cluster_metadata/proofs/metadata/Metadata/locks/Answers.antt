use Rattle.std.proofs.Common.{◌≡◌, subst}
use Rattle.transformations.specs.declared.image.Image.{Image}
use Rattle.cluster_metadata.proofs.locks.LockPlaces.{lock_nodes, locks_named, row_nodes}
use Rattle.cluster_metadata.proofs.metadata.Metadata.locks.Goals as goal

pub returns-clause-nodes : goal.returns-clause-nodes
returns-clause-nodes c = subst (λ (i : Image). lock_nodes c.self.inside.in_flight.locks ≡ row_nodes i.sequences) c.self.view_is (locks_named _ _ _ c.self.invariant.locks)
