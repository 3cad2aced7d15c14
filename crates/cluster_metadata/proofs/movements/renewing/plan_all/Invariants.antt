use Rattle.std.proofs.Common.{◌≡◌, map, take}
use Rattle.std.specs.List.{AllByRecursion}
use Rattle.sequence_plans.specs.Plan.{AreLocks}
use Rattle.sequence_plans.specs.PlanDeltas.{HasDeltas}
use Rattle.transformations.specs.declared.sequence.Phase.TheVariants as phase
use Rattle.cluster_metadata.specs.code.Change.{in_phase}
use Rattle.cluster_metadata.proofs.movements.renewing.plan_all.Given as goal

-- the plans and the locks of the rows before this one
abbrev pub invariant-loop-row : goal.invariant-loop-row
invariant-loop-row g l = record {
  rows : map (λ p. p.row) l.plans.items ≡ map (in_phase phase.Prepared) (take l.row-index l.image.sequences);
  deltas : AllByRecursion (HasDeltas l.image) l.plans.items;
  locks : AreLocks l.image (take l.row-index l.image.sequences) l.locks.items;
}
