-- Placement maps that are changed by the deltas of a movement.
use Rattle.std.specs.Prelude.{◌≡◌, ℕ, ◌<◌, ℤ, ◌≤ℤ◌, List, [], ◌∷◌, ◌++◌, get_or, length, map, take, Option, Some, None}
use Rattle.cluster_terms.specs.Row.{last_token}
use Rattle.cluster_terms.specs.declared.row.TokenRange.{TokenRange}
use Rattle.cluster_terms.specs.declared.token.RightEnd.{RightEnd}
use Rattle.placement_deltas.specs.Deltas.{delta_at}
use Rattle.placement_deltas.specs.declared.delta_book.DeltaBookRow.{DeltaBookRow}
use Rattle.placement_deltas.specs.declared.delta_row.DeltaRow.{DeltaRow}
use Rattle.range_placements.specs.code.Changing.{rows_changed}
use Rattle.range_placements.specs.Editing.{Edits, edited}
use Rattle.range_placements.specs.Exchanging.{with_changes, with_nodes}
use Rattle.range_placements.specs.Placements.{map_at, reads_changed, writes_changed}
use Rattle.range_placements.specs.declared.placement_row.PlacementRow.{PlacementRow}
use Rattle.range_placements.specs.declared.row_changes.NewNodes.{NewNodes}
use Rattle.range_placements.specs.declared.row_changes.RowChange.{RowChange}
use Rattle.transformations.specs.declared.sequence.Phase.{Phase}
use Rattle.transformations.specs.declared.sequence.Phase.TheVariants.{Prepared, Started, Mid}
use Rattle.range_placements.specs.declared.map_row.MapRow.{MapRow}
use Rattle.placement_maps.specs.declared.turn.Turn.{Turn}
use Rattle.placement_maps.specs.declared.turn.Turn.TheVariants.{Keep, Reads, Writes, ReadsBack, WritesBack}

-- the reads and the writes of a token, changed by the nodes that the movement gains and those that it loses
abbrev pub turned : Turn → List ℕ × List ℕ → List ℕ × List ℕ → List ℕ × List ℕ
turned Keep placement change = placement
turned Reads placement change = reads_changed placement change
turned Writes placement change = writes_changed placement change
turned ReadsBack placement change = reads_changed placement (change.1, change.0)
turned WritesBack placement change = writes_changed placement (change.1, change.0)

-- the turn that undoes the last step of a movement at this phase
abbrev pub undoing : Phase → Turn
undoing Prepared = Keep
undoing Started = WritesBack
undoing Mid = ReadsBack

-- a row with this right end, the reads and the writes
abbrev pub row_to : RightEnd → List ℕ × List ℕ → PlacementRow
row_to right placement = record { right = right; reads = placement.0; writes = placement.1 }

-- a row with its new nodes, if it has any
abbrev pub with_turned : Option NewNodes → PlacementRow → PlacementRow
with_turned None row = row
with_turned (Some nodes) row = with_nodes nodes row

-- the row of a range, with the reads and the writes of its last token
abbrev pub row_with : (ℤ → List ℕ × List ℕ) → TokenRange → PlacementRow
row_with placement range = row_to range.right (placement (last_token range.right))

-- the rows of a map, changed by a delta
abbrev pub turned_rows : Turn → List PlacementRow → List DeltaRow → List PlacementRow
turned_rows turn rows delta = rows_changed (turned turn) delta rows

-- the first n rows of a map have their new nodes, whatever rows come after them
abbrev pub AreTurned : Turn → List DeltaRow → List PlacementRow → ℕ → List RowChange → Type 0
AreTurned turn delta rows n changes = (rest : List PlacementRow) → with_changes changes (take n rows ++ rest) ≡ turned_rows turn (take n rows) delta ++ rest

-- the first k rows end at or before a token
abbrev pub EndUpTo : ℤ → List PlacementRow → ℕ → Type 0
EndUpTo last rows k = (j : ℕ) (d : PlacementRow) → j < k → last_token (get_or rows j d).right ≤ℤ last

-- a row ends from a token up to another one
abbrev pub IsWithin : ℤ → ℤ → PlacementRow → Type 0
IsWithin first last row = (first ≤ℤ last_token row.right) × (last_token row.right ≤ℤ last)

-- new nodes, if there are any, are added for the row at a position: whatever rows stand there and beside it
abbrev pub AddsNodes : Option NewNodes → ℕ → List RowChange → List RowChange → Type 0
AddsNodes nodes at before after =
    (row : PlacementRow) (done rest : List PlacementRow) → length done ≡ at → with_changes after (done ++ row ∷ rest) ≡ with_changes before (done ++ with_turned nodes row ∷ rest)

-- the reads and the writes of a map at a token, changed by a delta
abbrev pub turned_at : Turn → List PlacementRow → List DeltaRow → ℤ → List ℕ × List ℕ
turned_at turn rows delta x = turned turn (map_at rows x) (delta_at delta x)

-- the rows of other ranges, with the same changes at their last tokens
abbrev pub recut_rows : Turn → List TokenRange → List PlacementRow → List DeltaRow → List PlacementRow
recut_rows turn ranges rows delta = map (row_with (turned_at turn rows delta)) ranges

-- rows that a turn by a delta leaves as they are
abbrev pub Keeps : Turn → List DeltaRow → List PlacementRow → Type 0
Keeps turn delta rows = turned_rows turn rows delta ≡ rows

-- edits make these rows more of the rows of a map
abbrev pub AddsRows : List PlacementRow → List PlacementRow → Edits → Edits → Type 0
AddsRows rows more before after = edited after rows ≡ edited before rows ++ more

-- a book with each map changed by the delta beside it
abbrev pub each_map : (List PlacementRow → List DeltaRow → List PlacementRow) → List MapRow → List DeltaBookRow → List MapRow
each_map change [] deltas = []
each_map change (row ∷ book) [] = []
each_map change (row ∷ book) (delta ∷ deltas) = record { replication = row.replication; map = change row.map delta.delta } ∷ each_map change book deltas
