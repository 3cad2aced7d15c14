-- The changes of rows between cuts, or one side of them, with adjacent rows joined if their changes are equal.
use Rattle.std.specs.Prelude.{Bool, ◌&&◌, if◌then◌else◌, ℕ, nat_eq, List, [], ◌∷◌, ◌++◌, Option, Some, None}
use Rattle.std.specs.Cmp.Lexicographic.{pointwise}
use Rattle.cluster_terms.specs.declared.row.TokenRange.{TokenRange}
use Rattle.cluster_terms.specs.declared.token.RightEnd.{RightEnd}
use Rattle.cluster_terms.specs.declared.token.RightEnd.TheVariants.{Max}
use Rattle.node_sets.specs.NodeSets.{without}
use Rattle.placement_deltas.specs.Deltas.{change_in, only}
use Rattle.placement_deltas.specs.declared.delta_row.DeltaRow.{DeltaRow}
use Rattle.placement_deltas.specs.declared.side.Side.{Side}

-- a row up to a right end, with what changes there
abbrev pub change_row : RightEnd → List ℕ → List ℕ → DeltaRow
change_row right before after = record { right = right; gained = without after before; lost = without before after }

-- a row for each range, with what changes there
abbrev pub change_rows : List TokenRange → List (List ℕ) → List (List ℕ) → List DeltaRow
change_rows (range ∷ ranges) (b ∷ before) (a ∷ after) = change_row range.right b a ∷ change_rows ranges before after
change_rows _ _ _ = []

-- a row with one side of its change
abbrev pub row_of_side : Side → DeltaRow → DeltaRow
row_of_side side row = record { right = row.right; gained = (only side (change_in row)).0; lost = (only side (change_in row)).1 }

-- whether two rows have the same nodes gained and the same nodes lost
abbrev pub same_change : DeltaRow → DeltaRow → Bool
same_change row other = pointwise nat_eq row.gained other.gained && pointwise nat_eq row.lost other.lost

-- the row that has begun, if it ends where the next row begins
abbrev pub closed : Option DeltaRow → DeltaRow → List DeltaRow
closed None next = []
closed (Some row) next = if same_change row next then [] else row ∷ []

-- the last row
abbrev pub row_ended : Option DeltaRow → List DeltaRow
row_ended None = []
row_ended (Some row) = (record { right = Max; gained = row.gained; lost = row.lost }) ∷ []

-- the rows joined, from a row that has begun on
abbrev pub joined_from : Option DeltaRow → List DeltaRow → List DeltaRow
joined_from begun [] = row_ended begun
joined_from begun (next ∷ rows) = closed begun next ++ joined_from (Some next) rows
