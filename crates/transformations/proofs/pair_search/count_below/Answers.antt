use Rattle.std.proofs.Common.{int_lt, rules}
use Rattle.std.proofs.lemmas.List.Sorted.{IsPartitionPoint-from_clause}
use Rattle.cluster_terms.specs.declared.token.Pair.{Pair}
use Rattle.transformations.proofs.pairs.PairSearch.{below_first, split_from_tests}
use Rattle.transformations.proofs.pair_search.count_below.Goals as goal

pub returns-clause-split : goal.returns-clause-split
returns-clause-split c =
    split_from_tests _ _ _ (IsPartitionPoint-from_clause (λ (p : Pair). int_lt p.token c.args.t) _ _ c.partition_point.ensures.partitioned (below_first _ _ c.requires) (λ a r f h. search rules))
