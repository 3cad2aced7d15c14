use Rattle.transformations.proofs.deltas.DeltaRows.{deltas_stand}
use Rattle.transformations.proofs.deltas.DeltasAfter.{deltas_after}
use Rattle.transformations.proofs.deltas.OutsideDeltas.{none_outside}
use Rattle.transformations.proofs.deltas.StepDeltas.{deltas_kept}
use Rattle.transformation_laws.proofs.validity.deltas_persist.Goals as goal

pub returns-clause-step : goal.returns-clause-step
returns-clause-step c = deltas_kept

pub returns-clause-kept : goal.returns-clause-kept
returns-clause-kept c = deltas_after

pub returns-clause-outside : goal.returns-clause-outside
returns-clause-outside c = none_outside

pub returns-clause-rows : goal.returns-clause-rows
returns-clause-rows c = deltas_stand
