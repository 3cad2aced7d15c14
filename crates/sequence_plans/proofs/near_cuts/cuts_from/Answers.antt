use Rattle.std.proofs.Common.{ℤ, int_lt, rules, ◌∙◌}
use Rattle.std.proofs.lemmas.List.{take_rest}
use Rattle.std.proofs.lemmas.List.Sorted.{IsPartitionPoint-from_clause}
use Rattle.sequence_plans.proofs.NearCutSearch.{below_first, from_left, from_none}
use Rattle.sequence_plans.proofs.near_cuts.cuts_from.Goals as goal

pub returns-in-None : goal.returns-in-None
returns-in-None c = rw c.in-None.is (from_none c.args.cuts.now)

pub returns-in-Some : goal.returns-in-Some
returns-in-Some c =
    rw c.in-Some.is (take_rest c.args.cuts.now c.partition_point-before.result
    ∙ from_left c.args.cuts.now c.in-Some.left c.partition_point-before.result
    (IsPartitionPoint-from_clause (λ (u : ℤ). int_lt u c.in-Some.left) _ _ c.partition_point-before.ensures.partitioned (below_first _ _ c.requires) (λ a r f h. search rules)))
