-- How a directory stores its rows: under their names, in order of id.
use Rattle.std.specs.Prelude.{◌≡◌, ℕ, ◌<◌, List, length, map, HoldsAt, Option, None, MatchOption, string_bytes, slice_get, IsTrue, Bool, ◌&&◌, ◌==◌}
use Rattle.std.specs.Map.{keys_of, values_of}
use Rattle.std.specs.declared.string.String.{String}
use Rattle.cluster_terms.specs.NodeRow.{row_of}
use Rattle.cluster_terms.specs.declared.node.NodeRow.{NodeRow}
use Rattle.node_directory.specs.Directory.{node_names, is_directory}
use Rattle.std.specs.Bool.{beq}
use Rattle.std.specs.Str.{bytes_eq}

module _ {Y : Type 0} where
  -- each row is stored under its node's name
  abbrev pub AreNamed : List (String Y × NodeRow) → Type 0
  AreNamed entries = map string_bytes (keys_of entries) ≡ node_names (values_of entries)

  -- each row is stored under its node's name, and the rows are those of a directory
  abbrev pub IsKept : List (String Y × NodeRow) → ℕ → Type 0
  IsKept entries next = AreNamed entries × IsTrue (is_directory 0 (values_of entries) next)

-- the row of the node n is at position `at`
pub record IsPlace (rows : List NodeRow) (n at : ℕ) : Type 0 where
  pub in_range : at < length rows
  pub row : slice_get rows at ≡ row_of rows n
  pub id : HoldsAt (λ row. row.id ≡ n) rows at

-- the position of a node's row; None if the node is not registered
abbrev pub IsPlaceOf : List NodeRow → ℕ → Option ℕ → Type 0
IsPlaceOf rows n found = MatchOption found (row_of rows n ≡ None) (IsPlace rows n)

-- whether two rows are equal
abbrev pub same_node : NodeRow → NodeRow → Bool
same_node row other =
    (row.id == other.id) && beq row.left other.left && bytes_eq row.name other.name && bytes_eq row.dc other.dc
    && bytes_eq row.rack other.rack
