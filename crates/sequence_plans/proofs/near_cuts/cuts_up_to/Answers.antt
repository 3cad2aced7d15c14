use Rattle.std.proofs.Common.{ℤ, int_le, rules}
use Rattle.std.proofs.lemmas.List.Sorted.{IsPartitionPoint-from_clause}
use Rattle.sequence_plans.proofs.NearCutSearch.{passed_first, upto_first}
use Rattle.sequence_plans.proofs.near_cuts.cuts_up_to.Goals as goal

pub returns : goal.returns
returns c =
    passed_first (λ (u : ℤ). int_le u c.args.last) c.args.cuts.now c.partition_point-count.result
    (IsPartitionPoint-from_clause (λ (u : ℤ). int_le u c.args.last) _ _ c.partition_point-count.ensures.partitioned (upto_first _ _ c.requires) (λ a r f h. search rules))
