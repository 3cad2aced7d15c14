use Rattle.transformations.proofs.images.OrderLaws.{ids_increase}
use Rattle.transformations.proofs.image_rules.bad_ring.Goals as goal

pub owner_missing-requires : goal.owner_missing-requires
owner_missing-requires c = ids_increase c.args.image.now.nodes c.requires.ascending
