use Rattle.std.proofs.Common.{refl}
use Rattle.cluster_metadata.proofs.locks.RenewedLocks.{renewed_compared}
use Rattle.cluster_metadata.specs.code.Change.{rekeyed}
use Rattle.cluster_metadata.proofs.changes.keyspaces.unless_overlapping.Goals as goal

pub returns-clause-change : goal.returns-clause-change
returns-clause-change c =
    (refl, renewed_compared (rekeyed c.args.image.now c.args.keyspaces) c.in_ok-renewed.renewed (rw c.in_ok-next.ensures at c.in_ok-renewed.ensures) (c.in_ok-refusal.ensures.apart c.in_default.is))
