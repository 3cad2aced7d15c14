use Rattle.std.proofs.Common.{int_lt, rules}
use Rattle.std.proofs.lemmas.List.Sorted.{IsPartitionPoint-from_clause}
use Rattle.cluster_terms.specs.Row.{last_token}
use Rattle.cluster_terms.specs.declared.row.TokenRange.{TokenRange}
use Rattle.token_ring.proofs.RangeLemmas.{ends_ascend}
use Rattle.token_ring.proofs.range_list.count_before.Goals as goal

pub returns-clause-split : goal.returns-clause-split
returns-clause-split c =
    IsPartitionPoint-from_clause (λ (r : TokenRange). int_lt (last_token r.right) c.args.t) _ _ c.partition_point.ensures.partitioned (ends_ascend _ _ c.requires) (λ a r f h. search rules)
