-- The rows that edits put in, and how many they make.
use Rattle.std.specs.Prelude.{ℕ, ◌+◌, ◌-◌, List, [], ◌∷◌, Option, Some, None}
use Rattle.range_placements.specs.declared.placement_row.PlacementRow.{PlacementRow}
use Rattle.range_placements.specs.declared.row_edits.RowEdit.{RowEdit}

-- how many rows are put in: one or none
abbrev pub row_count : Option PlacementRow → ℕ
row_count None = 0
row_count (Some row) = 1

-- how many rows edits put in where they remove none
abbrev pub rows_added : List RowEdit → ℕ
rows_added [] = 0
rows_added (edit ∷ edits) = (row_count edit.row - edit.skip) + rows_added edits

-- how many rows there are at most after edits
abbrev pub rows_made : List RowEdit → ℕ → ℕ
rows_made [] last = last
rows_made (edit ∷ edits) last = edit.keep + (row_count edit.row + rows_made edits last)
