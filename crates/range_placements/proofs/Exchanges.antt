-- Maps whose sets are exchanged: their ranges stay, and the last change is made first.
use Rattle.std.proofs.Common.{◌≡◌, ℕ, zero, suc, ◌<◌, ◌≤◌, List, [], ◌∷◌, ◌++◌, length, get_or, slice_set, refl, ap, arith}
use Rattle.range_placements.specs.Exchanging.{with_changes, with_nodes, with_nodes_at}
use Rattle.range_placements.specs.Placements.{IsPlacementMap}
use Rattle.range_placements.specs.declared.placement_row.PlacementRow.{PlacementRow}
use Rattle.range_placements.specs.declared.row_changes.NewNodes.{NewNodes}
use Rattle.range_placements.specs.declared.row_changes.NewNodes.TheVariants.{Reads, Writes}
use Rattle.range_placements.specs.declared.row_changes.RowChange.{RowChange}

-- ---- the rows are still those of a map

pub nodes_map : (n : ℕ) (nodes : NewNodes) (rows : List PlacementRow) → IsPlacementMap rows → IsPlacementMap (with_nodes_at n nodes rows)
nodes_map n nodes [] is = is
nodes_map zero (Reads nodes) (row ∷ []) is = is
nodes_map zero (Writes nodes) (row ∷ []) is = is
nodes_map zero (Reads nodes) (row ∷ next ∷ rows) is = is
nodes_map zero (Writes nodes) (row ∷ next ∷ rows) is = is
nodes_map (suc n) nodes (row ∷ []) is = is
nodes_map (suc zero) (Reads nodes) (row ∷ next ∷ rows) is = (is.0, nodes_map zero (Reads nodes) (next ∷ rows) is.1)
nodes_map (suc zero) (Writes nodes) (row ∷ next ∷ rows) is = (is.0, nodes_map zero (Writes nodes) (next ∷ rows) is.1)
nodes_map (suc (suc n)) nodes (row ∷ next ∷ rows) is = (is.0, nodes_map (suc n) nodes (next ∷ rows) is.1)

pub exchanged_map : (changes : List RowChange) (rows : List PlacementRow) → IsPlacementMap rows → IsPlacementMap (with_changes changes rows)
exchanged_map [] rows is = is
exchanged_map (c ∷ changes) rows is = nodes_map c.at c.nodes (with_changes changes rows) (exchanged_map changes rows is)

-- ---- the changes one by one

pub exchanged_last : (changes : List RowChange) (c : RowChange) (rows : List PlacementRow) → with_changes (changes ++ c ∷ []) rows ≡ with_changes changes (with_nodes_at c.at c.nodes rows)
exchanged_last [] c rows = refl
exchanged_last (d ∷ changes) c rows = ap (with_nodes_at d.at d.nodes) (exchanged_last changes c rows)

-- the row at a position
pub nodes_at : (nodes : NewNodes) (done : List PlacementRow) (row : PlacementRow) (rest : List PlacementRow)
    → with_nodes_at (length done) nodes (done ++ row ∷ rest) ≡ done ++ with_nodes nodes row ∷ rest
nodes_at nodes [] row rest = refl
nodes_at nodes (first ∷ done) row rest = ap (λ l. first ∷ l) (nodes_at nodes done row rest)

-- the row that is stored at a position
pub nodes_stored : (nodes : NewNodes) (rows : List PlacementRow) (n : ℕ) (row : PlacementRow) → n < length rows → row ≡ get_or rows n row
    → slice_set rows n (with_nodes nodes row) ≡ with_nodes_at n nodes rows
nodes_stored nodes [] n row within is = absurd (omega arith)
nodes_stored nodes (first ∷ rows) zero row within is = ap (λ (r : PlacementRow). with_nodes nodes r ∷ rows) is
nodes_stored nodes (first ∷ rows) (suc n) row within is = ap (λ l. first ∷ l) (nodes_stored nodes rows n row (omega arith) is)

-- a position past the last row
pub nodes_past : (nodes : NewNodes) (rows : List PlacementRow) (n : ℕ) → length rows ≤ n → with_nodes_at n nodes rows ≡ rows
nodes_past nodes [] n past = refl
nodes_past nodes (row ∷ rows) zero past = absurd (omega arith)
nodes_past nodes (row ∷ rows) (suc n) past = ap (λ l. row ∷ l) (nodes_past nodes rows n (omega arith))
