use Rattle.std.proofs.Common.{nat_lt, rules}
use Rattle.std.proofs.lemmas.List.Sorted.{IsPartitionPoint-from_clause}
use Rattle.cluster_terms.specs.declared.node.NodeRow.{NodeRow}
use Rattle.transformations.proofs.images.NodeSearchLemmas.{ids_below_first, ids_split}
use Rattle.transformations.proofs.node_search.count_below.Goals as goal

pub returns-clause-split : goal.returns-clause-split
returns-clause-split c =
    ids_split _ _ _ (IsPartitionPoint-from_clause (λ (row : NodeRow). nat_lt row.id c.args.n) _ _ c.partition_point.ensures.partitioned (ids_below_first _ _ c.requires) (λ a r f h. search rules))
