-- The rows of a map after rows are put in and removed.
use Rattle.std.specs.Prelude.{ℕ, ◌+◌, List, [], ◌∷◌, ◌++◌, take, drop, Option, Some, None}
use Rattle.range_placements.specs.declared.placement_row.PlacementRow.{PlacementRow}
use Rattle.range_placements.specs.declared.row_edits.RowEdit.{RowEdit}

-- some edits from the first row on, and how many rows are kept after them; the others are removed
pub record Edits : Type 0 where
  pub edits : List RowEdit
  pub keep : ℕ

-- rows behind a row, if there is one
abbrev pub with_first : Option PlacementRow → List PlacementRow → List PlacementRow
with_first None rows = rows
with_first (Some row) rows = row ∷ rows

-- the rows after edits: each keeps some rows, removes the next ones, and puts in its row, if it has one. `last` rows
-- are kept after the edits
abbrev pub edited_rows : List RowEdit → ℕ → List PlacementRow → List PlacementRow
edited_rows [] last rows = take last rows
edited_rows (edit ∷ edits) last rows = take edit.keep rows ++ with_first edit.row (edited_rows edits last (drop edit.skip (drop edit.keep rows)))

-- the rows after all edits
abbrev pub edited : Edits → List PlacementRow → List PlacementRow
edited edits rows = edited_rows edits.edits edits.keep rows

-- how many rows edits have kept or removed, with those kept after them
abbrev pub rows_passed : List RowEdit → ℕ → ℕ
rows_passed [] last = last
rows_passed (edit ∷ edits) last = edit.keep + (edit.skip + rows_passed edits last)

-- the same for all edits
abbrev pub all_passed : Edits → ℕ
all_passed edits = rows_passed edits.edits edits.keep
