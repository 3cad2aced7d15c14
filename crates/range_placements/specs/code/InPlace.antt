-- Rows in the middle of edits that are made in place, from the last to the first.
use Rattle.std.specs.Prelude.{◌≡◌, ℕ, ◌+◌, ◌≤◌, List, ◌++◌, length, take, drop}
use Rattle.range_placements.specs.Editing.{edited_rows, rows_passed}
use Rattle.range_placements.specs.code.EditCounts.{rows_added}
use Rattle.range_placements.specs.declared.placement_row.PlacementRow.{PlacementRow}
use Rattle.range_placements.specs.declared.row_edits.RowEdit.{RowEdit}

-- the edits that are left, in the rows before `from`, lead to these rows, with those from `to` on behind them; and the
-- rows between suffice for the rows that the edits add
pub record LeadsTo (edits : List RowEdit) (keep from to : ℕ) (rows last : List PlacementRow) : Type 0 where
  pub leads : edited_rows edits keep (take from rows) ++ drop to rows ≡ last
  pub passed : from ≡ rows_passed edits keep
  pub order : from + rows_added edits ≤ to
  pub bound : to ≤ length rows
