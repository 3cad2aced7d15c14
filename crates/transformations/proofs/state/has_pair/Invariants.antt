use Rattle.std.proofs.Common.{◌≡◌, ◌==◌, take}
use Rattle.std.specs.List.{list_any}
use Rattle.cluster_terms.specs.declared.token.Pair.{Pair}
use Rattle.transformations.proofs.state.has_pair.Given as goal

-- whether one of the pairs so far is the node's
abbrev pub invariant-loop-pair : goal.invariant-loop-pair
invariant-loop-pair l = l.found ≡ list_any (λ (p : Pair). p.node == l.n) (take l.pair-index l.pairs)
