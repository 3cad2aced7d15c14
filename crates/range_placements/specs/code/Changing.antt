-- The rows of a map after a change by a delta.
use Rattle.std.specs.Prelude.{ℕ, List, map}
use Rattle.cluster_terms.specs.Row.{last_token}
use Rattle.placement_deltas.specs.Deltas.{delta_at}
use Rattle.placement_deltas.specs.declared.delta_row.DeltaRow.{DeltaRow}
use Rattle.range_placements.specs.Placements.{placement_in}
use Rattle.range_placements.specs.declared.placement_row.PlacementRow.{PlacementRow}

-- the row with its reads and writes changed by what the delta shows at its last token
abbrev pub row_changed : (List ℕ × List ℕ → List ℕ × List ℕ → List ℕ × List ℕ) → List DeltaRow → PlacementRow → PlacementRow
row_changed change delta row =
    let placement = change (placement_in row) (delta_at delta (last_token row.right)) in
    record { right = row.right; reads = placement.0; writes = placement.1 }

-- each row changed by the delta so
abbrev pub rows_changed : (List ℕ × List ℕ → List ℕ × List ℕ → List ℕ × List ℕ) → List DeltaRow → List PlacementRow → List PlacementRow
rows_changed change delta rows = map (row_changed change delta) rows
