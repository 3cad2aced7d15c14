use Rattle.std.proofs.Common.{◌≡◌, drop}
use Rattle.cluster_terms.specs.Group.{nodes_of}
use Rattle.simple_strategy.specs.SimpleWalk.{taken_after}
use Rattle.simple_strategy.proofs.walk.take_nodes.Given as goal

abbrev pub invariant-loop-pair : goal.invariant-loop-pair
invariant-loop-pair l =
    taken_after l.wanted l.taken (nodes_of (drop l.pair-index l.pairs)) ≡ taken_after l.wanted l.initial.taken (nodes_of l.pairs)
