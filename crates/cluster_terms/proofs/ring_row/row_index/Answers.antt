use Rattle.std.proofs.Common.{◌≤ℤ◌, ◌∙◌, int_lt, rules, w64}
use Rattle.std.proofs.lemmas.Int.{to_z-of_z}
use Rattle.std.proofs.lemmas.List.Sorted.{IsPartitionPoint-from_clause}
use Rattle.cluster_terms.specs.Arc.{greatest_token}
use Rattle.cluster_terms.specs.Row.{last_token}
use Rattle.cluster_terms.proofs.rows.RingRows.{ends_climb, some_left}
use Rattle.cluster_terms.proofs.ring_row.row_index.Goals as goal

pub returns-clause-row : goal.returns-clause-row
returns-clause-row g c =
    let number = to_z-of_z w64 c.value-number.result (search rules) ∙ c.value-number.ensures in
    IsPartitionPoint-from_clause (λ (r : g.row.R.Denot). int_lt (last_token (g.R.RingRow.right r)) c.args.t) _ _ c.partition_point.ensures.partitioned (ends_climb g.R.RingRow.right _ _ c.requires) (λ a r f h. rw (← number) (search rules))

pub returns-clause-token : goal.returns-clause-token
returns-clause-token g c =
    let upto : c.value-number.result ≤ℤ greatest_token = search rules in
    rw (← c.value-number.ensures) upto

pub returns-clause-bound : goal.returns-clause-bound
returns-clause-bound g c =
    some_left g.R.RingRow.right c.args.rows.now c.args.t c.partition_point.result c.requires (returns-clause-token g c) c.partition_point.ensures.bound (returns-clause-row g c)
