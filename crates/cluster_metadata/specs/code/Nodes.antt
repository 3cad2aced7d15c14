-- The nodes of an image after a change, and what such a change needs.
use Rattle.std.specs.Prelude.{◌≡◌, ℕ, ◌+◌, ◌-◌, ◌<◌, ◌^◌, false, List, [], ◌∷◌, ◌++◌, map, length, slice_set, Option, None, option_map, IsSome}
use Rattle.cluster_terms.specs.NodeRow.{marked, row_of}
use Rattle.cluster_terms.specs.declared.node.NodeRow.{NodeRow}
use Rattle.node_directory.specs.Directory.{node_named}
use Rattle.node_directory.specs.Room.{IsRoomFor}
use Rattle.transformations.specs.Movements.{with_left}
use Rattle.transformations.specs.declared.image.Image.{Image}
use Rattle.cluster_metadata.specs.declared.changes.left_row.LeftRow.{LeftRow}
use Rattle.cluster_metadata.specs.declared.changes.new_node.NewNode.{NewNode}

-- the row of a new node
abbrev pub new_row : ℕ → List ℕ → List ℕ → List ℕ → NodeRow
new_row id name dc rack = record { id = id; name = name; dc = dc; rack = rack; left = false }

-- a new node has the next id and a free name, and brings memory for one more row among the nodes and in the directory
pub record IsNew (nodes : List NodeRow) (next : ℕ) (node : NewNode) : Type 0 where
  pub row : node.row ≡ new_row next node.entry.name node.entry.dc node.entry.rack
  pub following : node.next ≡ next + 1
  pub ids : next < 2 ^ 32 - 1
  pub free : node_named nodes node.entry.name ≡ None
  pub room : length nodes < node.nodes
  pub directory : IsRoomFor (length nodes) next node.entry.name node.directory

-- the node that leaves with a row
abbrev pub left_node : Option LeftRow → Option ℕ
left_node left = option_map (λ l. l.row.id) left

-- the nodes after it has left; without a row they stay
abbrev pub nodes_left : List NodeRow → Option LeftRow → List NodeRow
nodes_left nodes left = with_left nodes (left_node left)

-- the row of a registered node, which is marked as left once this row is put at its position
pub record IsLeftRow (nodes : List NodeRow) (left : LeftRow) : Type 0 where
  pub registered : IsSome (row_of nodes left.row.id)
  pub within : left.at < length nodes
  pub marks : slice_set nodes left.at left.row ≡ map (marked left.row.id) nodes

-- the image with one more row of nodes and this next id; the epoch is as before
abbrev pub with_row : Image → NodeRow → ℕ → Image
with_row image row next = record image { next = next; nodes = image.nodes ++ row ∷ [] }

-- the image with a new node
abbrev pub with_node : Image → NewNode → Image
with_node image node = with_row image node.row node.next

-- the image with a node that has left
abbrev pub with_node_left : Image → Option LeftRow → Image
with_node_left image left = record image { nodes = nodes_left image.nodes left }
