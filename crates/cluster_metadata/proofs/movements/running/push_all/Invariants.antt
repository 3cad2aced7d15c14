use Rattle.std.proofs.Common.{◌≡◌, find, take, None}
use Rattle.sequence_plans.specs.Plan.{AreLocks}
use Rattle.transformations.specs.ImageRules.{overlaps}
use Rattle.cluster_metadata.specs.code.Running.{HaveDeltas, IsRunning}
use Rattle.cluster_metadata.proofs.movements.running.push_all.Given as goal

-- the values of the rows before this one are added, and their locks, and none of them overlaps one of a lesser node
abbrev pub invariant-loop-row : goal.invariant-loop-row
invariant-loop-row g l = record {
  rows : IsRunning (take l.row-index l.image.sequences) l.in_flight.running.items;
  deltas : HaveDeltas l.image l.in_flight.running.items;
  locks : AreLocks l.image (take l.row-index l.image.sequences) l.in_flight.locks;
  apart : find (overlaps l.image) (take l.row-index l.image.sequences) ≡ None;
}
