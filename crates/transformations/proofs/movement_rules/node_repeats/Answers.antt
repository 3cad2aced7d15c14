use Rattle.std.proofs.Common.{sym, subst}
use Rattle.std.specs.List.{AllByRecursion}
use Rattle.transformations.proofs.images.FitLaws.{of_one_node}
use Rattle.transformations.specs.code.OneNode.{IsOfOneNode}
use Rattle.transformations.proofs.movement_rules.node_repeats.Goals as goal

pub first_node_repeat-requires : goal.first_node_repeat-requires
first_node_repeat-requires c = subst (AllByRecursion IsOfOneNode) (sym c.as_slice.ensures) (of_one_node c.args.image.now c.requires)
