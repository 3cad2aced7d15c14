use Rattle.std.proofs.Common.{◌≡◌, ◌++◌, take, drop}
use Rattle.cluster_terms.specs.Ascending.{put}
use Rattle.transformations.specs.Orders.{by_node}
use Rattle.transformations.specs.declared.sequence.SeqRow.{SeqRow}
use Rattle.cluster_metadata.proofs.movements.preparing.place_for.Given as goal

-- what is put among all movements is put among those that are left
abbrev pub invariant-loop-at : goal.invariant-loop-at
invariant-loop-at l = (row : SeqRow) → row.node ≡ l.node → put by_node row l.sequences ≡ take l.at l.sequences ++ put by_node row (drop l.at l.sequences)
