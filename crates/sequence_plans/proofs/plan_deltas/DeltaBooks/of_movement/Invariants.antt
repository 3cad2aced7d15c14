use Rattle.std.proofs.Common.{take}
use Rattle.sequence_plans.specs.code.DeltaParts.{AreBooks}
use Rattle.sequence_plans.proofs.plan_deltas.DeltaBooks.of_movement.Given as goal

-- the deltas under the replications so far
abbrev pub invariant-loop-row : goal.invariant-loop-row
invariant-loop-row g l = AreBooks l.rings.image.now l.rings.row.now (take l.row-index l.ranges) l.books
