-- The rows of a map after an exchange of sets.
-- The contract of `PlacementMap::exchange` cites `with_changes`.
use Rattle.std.specs.Prelude.{ℕ, zero, suc, List, [], ◌∷◌}
use Rattle.range_placements.specs.declared.placement_row.PlacementRow.{PlacementRow}
use Rattle.range_placements.specs.declared.row_changes.NewNodes.{NewNodes}
use Rattle.range_placements.specs.declared.row_changes.NewNodes.TheVariants.{Reads, Writes}
use Rattle.range_placements.specs.declared.row_changes.RowChange.{RowChange}

-- a row with new reads, or with new writes
abbrev pub with_nodes : NewNodes → PlacementRow → PlacementRow
with_nodes (Reads nodes) row = record row { reads = nodes }
with_nodes (Writes nodes) row = record row { writes = nodes }

-- the rows with new nodes at a position
abbrev pub with_nodes_at : ℕ → NewNodes → List PlacementRow → List PlacementRow
with_nodes_at n nodes [] = []
with_nodes_at zero nodes (row ∷ rows) = with_nodes nodes row ∷ rows
with_nodes_at (suc n) nodes (row ∷ rows) = row ∷ with_nodes_at n nodes rows

-- the rows after these changes, of which the last is made first
abbrev pub with_changes : List RowChange → List PlacementRow → List PlacementRow
with_changes [] rows = rows
with_changes (c ∷ changes) rows = with_nodes_at c.at c.nodes (with_changes changes rows)
