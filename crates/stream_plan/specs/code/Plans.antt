-- The plan that belongs to a movement of an image.
use Rattle.std.specs.Prelude.{◌≡◌, Some}
use Rattle.placement_deltas.specs.declared.plan.Plan.{Plan}
use Rattle.sequence_plans.specs.PlanDeltas.{HasDeltas}
use Rattle.transformations.specs.Movements.{movement_of}
use Rattle.transformations.specs.declared.image.Image.{Image}
use Rattle.transformations.specs.declared.sequence.SeqRow.{SeqRow}

-- a plan is that of a movement: the movement is that of its node, with the plan's row at the movement's phase, and the
-- plan has the movement's deltas
pub record IsPlanOf (image : Image) (movement : SeqRow) (plan : Plan) : Type 0 where
  pub found : movement_of image plan.row.node ≡ Some movement
  pub row : movement ≡ record plan.row { phase = movement.phase }
  pub deltas : HasDeltas image plan

-- a plan is that of the movement of its node
pub record IsPlanIn (image : Image) (plan : Plan) : Type 0 where
  pub movement : SeqRow
  pub is : IsPlanOf image movement plan
