-- Placements: the nodes that are read and the nodes that are written at each token.
use Rattle.std.specs.Prelude.{◌≡◌, Bool, true, if◌then◌else◌, ℕ, ℤ, pos, ◌+ℤ◌, int_lt, int_le, List, [], ◌∷◌, ◌++◌, map, filter_map, Option, Some, None}
use Rattle.std.specs.Ordering.{int_eq}
use Rattle.std.specs.Set.{is_member}
use Rattle.cluster_terms.specs.Arc.{greatest_token}
use Rattle.cluster_terms.specs.Row.{CoverRing, last_token}
use Rattle.cluster_terms.specs.declared.token.RightEnd.{RightEnd}
use Rattle.cluster_terms.specs.declared.token.RightEnd.TheVariants.{At, Max}
pub use Rattle.node_sets.specs.NodeSets.{with_change}
use Rattle.range_placements.specs.declared.placement_row.PlacementRow.{PlacementRow}

-- the reads and the writes of a row
abbrev pub placement_in : PlacementRow → List ℕ × List ℕ
placement_in row = (row.reads, row.writes)

-- the reads and the writes at a token: those of the first row that ends at or after it
abbrev pub map_at : List PlacementRow → ℤ → List ℕ × List ℕ
map_at [] x = ([], [])
map_at (row ∷ rows) x = if int_le x (last_token row.right) then placement_in row else map_at rows x

-- the rows cover the ring: their last tokens ascend, and the last row ends in Max or at the greatest token
abbrev pub IsPlacementMap : List PlacementRow → Type 0
IsPlacementMap rows = CoverRing (λ row. row.right) rows

-- the right ends of the rows
abbrev pub right_ends : List PlacementRow → List RightEnd
right_ends rows = map (λ row. row.right) rows

-- the cut at which a row ends: none at Max
abbrev pub cut_of : RightEnd → Option ℤ
cut_of (At t) = Some t
cut_of Max = None

-- the cuts: the tokens at which rows end, apart from Max
abbrev pub cuts_of : List PlacementRow → List ℤ
cuts_of rows = filter_map cut_of (right_ends rows)

-- whether a token is a cut
abbrev pub is_cut_of : List PlacementRow → ℤ → Bool
is_cut_of rows t = is_member int_eq (cuts_of rows) t

-- a row with another right end
abbrev pub row_until : PlacementRow → RightEnd → PlacementRow
row_until row right = record { right = right; reads = row.reads; writes = row.writes }

-- a row up to a token, and the rest of it, if tokens are left
abbrev pub split_row : PlacementRow → ℤ → List PlacementRow
split_row row t = row_until row (At t) ∷ (if int_lt t (last_token row.right) then row ∷ [] else [])

-- the rows with a token as a cut
abbrev pub split_rows : List PlacementRow → ℤ → List PlacementRow
split_rows [] t = []
split_rows (row ∷ rows) t = if int_lt (last_token row.right) t then row ∷ split_rows rows t else split_row row t ++ rows

-- the rows from a row on, joined with the row after it; the last row ends in Max instead
abbrev pub merged_row : PlacementRow → List PlacementRow → List PlacementRow
merged_row row [] = row_until row Max ∷ []
merged_row row (next ∷ rows) = next ∷ rows

-- the rows without a token as a cut
abbrev pub merged_rows : List PlacementRow → ℤ → List PlacementRow
merged_rows [] t = []
merged_rows (row ∷ rows) t = if int_lt (last_token row.right) t then row ∷ merged_rows rows t else merged_row row rows

-- a token and the token after it, if there is one, have the same reads and the same writes
abbrev pub HasSameSides : List PlacementRow → ℤ → Type 0
HasSameSides rows t = int_lt t greatest_token ≡ true → map_at rows t ≡ map_at rows (t +ℤ pos 1)

-- the reads and the writes after the reads change by nodes gained and nodes lost
abbrev pub reads_changed : List ℕ × List ℕ → List ℕ × List ℕ → List ℕ × List ℕ
reads_changed placement change = (with_change placement.0 change.0 change.1, placement.1)

-- the reads and the writes after the writes change by nodes gained and nodes lost
abbrev pub writes_changed : List ℕ × List ℕ → List ℕ × List ℕ → List ℕ × List ℕ
writes_changed placement change = (placement.0, with_change placement.1 change.0 change.1)
