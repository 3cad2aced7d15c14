-- The rows of a stream plan, made from the rows of a placement map and a delta.
use Rattle.std.specs.Prelude.{ℕ, ℤ, Bool, if◌then◌else◌, List, [], ◌∷◌, ◌++◌, Option, Some, None}
use Rattle.cluster_terms.specs.Group.{Group}
use Rattle.cluster_terms.specs.IdSets.{with_change}
use Rattle.cluster_terms.specs.Row.{last_token}
use Rattle.cluster_terms.specs.declared.token.RightEnd.{RightEnd}
use Rattle.cluster_terms.specs.declared.token.RightEnd.TheVariants.{At, Max}
use Rattle.placement_deltas.specs.Deltas.{delta_at}
use Rattle.placement_deltas.specs.declared.delta_row.DeltaRow.{DeltaRow}
use Rattle.range_placements.specs.declared.placement_row.PlacementRow.{PlacementRow}
use Rattle.stream_plan.specs.Streams.{rows_in}
use Rattle.stream_plan.specs.declared.stream_row.StreamRow.{StreamRow}

-- the nodes placed before a movement, by the nodes that are read; these can be the nodes placed with the movement
abbrev pub placed_first : Bool → List ℕ → List ℕ → List ℕ → List ℕ
placed_first is_read reads gained lost = if is_read then with_change reads lost gained else reads

-- the left end of the next row
abbrev pub left_after : RightEnd → Option ℤ
left_after (At t) = Some t
left_after Max = None

-- the rows of one row of a placement map, which begins at a left end
abbrev pub rows_at : List Group → Bool → List DeltaRow → Option ℤ → PlacementRow → List StreamRow
rows_at gs is_read delta left row =
    let change = delta_at delta (last_token row.right) in
    rows_in gs (record { left = left; right = row.right }) (placed_first is_read row.reads change.0 change.1) change.0 change.1

-- the rows of all rows of a placement map from a left end on
abbrev pub rows_by : List Group → Bool → List DeltaRow → Option ℤ → List PlacementRow → List StreamRow
rows_by gs is_read delta left [] = []
rows_by gs is_read delta left (row ∷ rows) = rows_at gs is_read delta left row ++ rows_by gs is_read delta (left_after row.right) rows
