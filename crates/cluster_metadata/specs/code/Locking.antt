-- How changes lock and unlock ranges, and the keys that movements hold.
use Rattle.std.specs.Prelude.{◌≡◌, ◌≢◌, ℕ, false, true, List, [], ◌∷◌, ◌++◌, map, nat_eq, ℤ}
use Rattle.std.specs.List.{AllByRecursion, AllPairs, IsDistinct, insert, remove}
use Rattle.locked_ranges.specs.Sharing.{ShareNoToken}
use Rattle.locked_ranges.specs.Table.{has_row}
use Rattle.token_ring.specs.TokenRanges.{AreCutOut}
use Rattle.placement_deltas.specs.declared.plan.Plan.{Plan}
use Rattle.token_ring.specs.declared.range_book.LockRow.{LockRow}
use Rattle.sequence_plans.specs.PlanDeltas.{HasDeltas}
use Rattle.sequence_plans.specs.Plan.{IsLockRow}
use Rattle.transformations.specs.declared.image.Image.{Image}
use Rattle.transformations.specs.declared.sequence.SeqRow.{SeqRow}
use Rattle.cluster_metadata.specs.code.Change.{plan_lock}
use Rattle.cluster_metadata.specs.code.Running.{movement_row, moving_node, plan_of}
use Rattle.cluster_metadata.specs.declared.changes.change.Change.{Change}
use Rattle.cluster_metadata.specs.declared.changes.change.Change.TheVariants.{Keyspaces, Begun, Finished, Ended}
use Rattle.cluster_metadata.specs.declared.movements.running.Running.{Running}

-- the lock of a movement in flight
abbrev pub lock_of : Running → LockRow
lock_of m = plan_lock (plan_of m)

-- the locks after a change, from those before it
abbrev pub locks_after : List LockRow → Change → List LockRow
locks_after table (Keyspaces keyspaces renewed) = renewed.locks
locks_after table (Begun at plan sequences) = insert table at (plan_lock plan)
locks_after table (Finished at left tokens) = remove table at
locks_after table (Ended at) = remove table at
locks_after table _ = table

-- the movement of a plan has no lock, and no lock shares a token with it
pub record IsFree (plan : Plan) (table : List LockRow) : Type 0 where
  pub new : has_row table plan.row.node ≡ false
  pub apart : AllByRecursion (λ row. ShareNoToken plan.ranges row.ranges) table

-- other locks have the nodes of those before them, each once, and no two of them share a token
pub record MayRelock (table locks : List LockRow) : Type 0 where
  pub names : (n : ℕ) → has_row locks n ≡ has_row table n
  pub once : AllPairs (λ one other. one.node ≢ other.node) locks
  pub apart : AllPairs (λ one other. ShareNoToken one.ranges other.ranges) locks

-- the movement that begins may be locked, and all movements may be locked anew
abbrev pub MayLock : List LockRow → Change → Type 0
MayLock table (Keyspaces keyspaces renewed) = MayRelock table renewed.locks
MayLock table (Begun at plan sequences) = IsFree plan table
MayLock table _ = Unit {0}

-- the bounds of the ranges of these locks are cuts
abbrev pub AreCutAt : List ℤ → List LockRow → Type 0
AreCutAt cuts table = AllByRecursion (λ row. AllByRecursion (λ r. AreCutOut cuts r.ranges) row.ranges) table

-- the value of a movement is added, and its lock
pub record AddsMovement (image : Image) (s : SeqRow) (before after : List Running) (locks locked : List LockRow) : Type 0 where
  pub movement : Running
  pub running : after ≡ before ++ movement ∷ []
  pub table : locked ≡ locks ++ lock_of movement ∷ []
  pub row : movement_row movement ≡ s
  pub deltas : HasDeltas image (plan_of movement)
  pub lock : IsLockRow image s (lock_of movement)

-- the movements are of distinct nodes, and each has a lock
pub record AreLocked (table : List LockRow) (running : List Running) : Type 0 where
  pub distinct : IsDistinct nat_eq (map moving_node running)
  pub locks : AllByRecursion (λ m. has_row table (moving_node m) ≡ true) running
