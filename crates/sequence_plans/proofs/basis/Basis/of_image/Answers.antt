use Rattle.sequence_plans.proofs.BasisLemmas.{fixed_tokens}
use Rattle.sequence_plans.proofs.basis.Basis.of_image.Goals as goal

pub from_list-requires : goal.from_list-requires
from_list-requires c = rw (c.in_ok-fixed.ensures, c.tokens.ensures, c.sequences.ensures) (fixed_tokens c.args.image.now c.requires.sound)
