use Rattle.std.proofs.Common.{◌≡◌, take}
use Rattle.cluster_terms.specs.Pair.{tokens_of}
use Rattle.transformations.specs.Movements.{pairs_of}
use Rattle.transformations.proofs.movement_fit.are_handed_over.Given as goal

-- the pairs so far
abbrev pub invariant-loop-pair : goal.invariant-loop-pair
invariant-loop-pair l = l.given.items ≡ pairs_of l.n (tokens_of (take l.pair-index l.out))
