use Rattle.std.proofs.Common.{int_lt, rules}
use Rattle.std.proofs.lemmas.List.Sorted.{IsPartitionPoint-from_clause}
use Rattle.cluster_terms.specs.declared.token.Pair.{Pair}
use Rattle.token_ring.proofs.RingLemmas.{IsPartitionedBy-int_lt, split-from_tests}
use Rattle.topology_strategy.proofs.racked_pairs.count_below.Goals as goal

pub returns-clause-split : goal.returns-clause-split
returns-clause-split c =
    split-from_tests _ _ _ (IsPartitionPoint-from_clause (λ (p : Pair). int_lt p.token c.args.t) _ _ c.partition_point.ensures.partitioned (IsPartitionedBy-int_lt _ _ c.requires) (λ a r f h. search rules))
