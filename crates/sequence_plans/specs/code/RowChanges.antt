-- What a movement changes in each row between cuts.
use Rattle.std.specs.Prelude.{ℕ, ℤ, if◌then◌else◌, List, []}
use Rattle.cluster_terms.specs.Row.{last_token}
use Rattle.cluster_terms.specs.declared.row.TokenRange.{TokenRange}
use Rattle.placement_deltas.specs.code.JoinedRows.{change_row}
use Rattle.placement_deltas.specs.declared.delta_row.DeltaRow.{DeltaRow}
use Rattle.token_ring.specs.TokenRanges.{have_token}

-- the nodes at the last token of a row, if the ranges contain it; none elsewhere
abbrev pub nodes_in_ranges : List TokenRange → (ℤ → List ℕ) → TokenRange → List ℕ
nodes_in_ranges ranges nodes row = if have_token ranges (last_token row.right) then nodes (last_token row.right) else []

-- what changes there between the nodes before and after a movement
abbrev pub change_at : List TokenRange → (ℤ → List ℕ) → (ℤ → List ℕ) → TokenRange → DeltaRow
change_at ranges one other row = change_row row.right (nodes_in_ranges ranges one row) (nodes_in_ranges ranges other row)
