use Rattle.std.proofs.Common.{length}
use Rattle.cluster_metadata.specs.code.Locking.{AreLocked}
use Rattle.cluster_metadata.proofs.movements.running.close_all.Given as goal

-- the values that are left have their locks
abbrev pub invariant-loop-movement : goal.invariant-loop-movement
invariant-loop-movement l = AreLocked l.locks l.running.items

abbrev pub decreases-loop-movement : goal.decreases-loop-movement
decreases-loop-movement l = length l.running.items
