use Rattle.std.proofs.Common.{sym, subst}
use Rattle.std.specs.List.Sorted.{IsStrictlySortedBy}
use Rattle.transformations.proofs.images.RingLaws.{tokens_up}
use Rattle.transformations.specs.Orders.{by_token}
use Rattle.transformations.proofs.movement_rules.token_repeats.Goals as goal

pub first_token_repeat-requires : goal.first_token_repeat-requires
first_token_repeat-requires c = subst (IsStrictlySortedBy by_token) (sym c.as_slice-tokens.ensures) (tokens_up c.args.image.now c.requires)
