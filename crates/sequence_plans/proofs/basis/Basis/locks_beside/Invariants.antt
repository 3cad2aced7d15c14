use Rattle.std.proofs.Common.{take}
use Rattle.transformations.specs.Movements.{others}
use Rattle.sequence_plans.specs.Plan.{AreLocks}
use Rattle.sequence_plans.proofs.basis.Basis.locks_beside.Given as goal

-- the ranges of the other movements so far
abbrev pub invariant-loop-row : goal.invariant-loop-row
invariant-loop-row l = AreLocks l.self.image.now (others (take l.row-index l.row-items) l.node) l.locks
