use Rattle.std.proofs.Common.{int_lt, rules}
use Rattle.std.proofs.lemmas.List.Sorted.{IsPartitionPoint-from_clause}
use Rattle.ring_reach.proofs.WindowLemmas.{before_first}
use Rattle.ring_reach.specs.declared.windows.Window.{Window}
use Rattle.ring_reach.proofs.windows.count_before.Goals as goal

pub returns-clause-split : goal.returns-clause-split
returns-clause-split c =
    IsPartitionPoint-from_clause (λ (w : Window). int_lt w.right c.args.t) _ _ c.partition_point.ensures.partitioned (before_first _ _ c.requires) (λ a r f h. search rules)
