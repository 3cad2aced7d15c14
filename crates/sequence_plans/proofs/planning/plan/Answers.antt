use Rattle.transformations.specs.Refusals.{with_movement}
use Rattle.sequence_plans.proofs.BasisLemmas.{valid_rows}
use Rattle.sequence_plans.proofs.planning.plan.Goals as goal

-- the image has the nodes that it has with the movement
pub from_valid-requires : goal.from_valid-requires
from_valid-requires g c = rw c.as_slice.ensures (valid_rows (with_movement c.args.image.now c.args.row) c.requires.sound)
