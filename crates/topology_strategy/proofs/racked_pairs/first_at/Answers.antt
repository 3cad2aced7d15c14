use Rattle.std.proofs.Common.{arith}
use Rattle.token_ring.proofs.RingLemmas.{first-within, first-past}
use Rattle.topology_strategy.proofs.racked_pairs.first_at.Goals as goal

pub returns-then-below-pairs-clause-first : goal.returns-then-below-pairs-clause-first
returns-then-below-pairs-clause-first c = λ some. first-within _ _ _ c.requires c.count_below-below.ensures.split (omega arith)

pub returns-else-below-pairs-clause-first : goal.returns-else-below-pairs-clause-first
returns-else-below-pairs-clause-first c = λ some. first-past _ _ _ c.requires c.count_below-below.ensures.split (omega arith) some
