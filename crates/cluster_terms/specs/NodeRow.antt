-- The rows of registered nodes.
use Rattle.std.specs.Prelude.{ℕ, true, if◌then◌else◌, List, Option, find, ◌==◌}
use Rattle.cluster_terms.specs.declared.node.NodeRow.{NodeRow}

-- the row of a node; None if the node is not registered
abbrev pub row_of : List NodeRow → ℕ → Option NodeRow
row_of nodes n = find (λ row. row.id == n) nodes

-- the row, marked as left if it is the row of the node n
abbrev pub marked : ℕ → NodeRow → NodeRow
marked n row = let left : NodeRow = record row { left = true } in if row.id == n then left else row
