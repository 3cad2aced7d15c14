use Rattle.transformations.proofs.images.OrderLaws.{ids_increase}
use Rattle.transformations.proofs.image_rules.bad_movements.Goals as goal

pub mover_missing-requires : goal.mover_missing-requires
mover_missing-requires c = ids_increase c.args.image.now.nodes c.requires

pub unfit-requires : goal.unfit-requires
unfit-requires c = ids_increase c.args.image.now.nodes c.requires
