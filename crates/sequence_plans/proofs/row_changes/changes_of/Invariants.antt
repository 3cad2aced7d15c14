use Rattle.std.proofs.Common.{map, take}
use Rattle.placement_deltas.specs.code.Changes.{AreJoined}
use Rattle.replica_placer.specs.Placers.{placed_by}
use Rattle.sequence_plans.specs.code.RowChanges.{change_at}
use Rattle.sequence_plans.proofs.row_changes.changes_of.Given as goal

-- what changes in the rows so far
abbrev pub invariant-loop-row : goal.invariant-loop-row
invariant-loop-row g l = AreJoined (map (change_at l.ranges (placed_by l.placers.before) (placed_by l.placers.after)) (take l.row-index l.rows)) l.changes
