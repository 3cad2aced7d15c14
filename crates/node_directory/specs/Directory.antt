-- The registered nodes of a cluster.
use Rattle.std.specs.Prelude.{ℕ, ◌+◌, Bool, true, false, not, ◌&&◌, ◌==◌, nat_le, nat_lt, List, [], ◌∷◌, map, filter, find, ◌++◌, Option}
use Rattle.std.specs.Option.{option_map}
use Rattle.std.specs.Set.{is_member}
use Rattle.std.specs.Str.{bytes_eq}
use Rattle.cluster_terms.specs.NodeRow.{marked, row_of}
use Rattle.cluster_terms.specs.declared.node.NodeRow.{NodeRow}

-- the rows of the registered nodes in order of registration, and the id that the next node gets
pub record Registry : Type 0 where
  pub rows : List NodeRow
  pub next : ℕ

-- the ids of rows
abbrev pub ids_of : List NodeRow → List ℕ
ids_of rows = map (λ row. row.id) rows

-- the names of rows
abbrev pub node_names : List NodeRow → List (List ℕ)
node_names rows = map (λ row. row.name) rows

-- whether ids ascend, the first id not below `least`, and all are below `next`
abbrev pub are_ascending : ℕ → List ℕ → ℕ → Bool
are_ascending least [] next = true
are_ascending least (id ∷ ids) next = nat_le least id && nat_lt id next && are_ascending (id + 1) ids next

-- whether no name comes twice
abbrev pub names_are_distinct : List (List ℕ) → Bool
names_are_distinct [] = true
names_are_distinct (name ∷ names) = not (is_member bytes_eq names name) && names_are_distinct names

-- whether these can be the rows of a directory: the ids ascend, begin at `least` or more and are below `next`, and no
-- name comes twice
abbrev pub is_directory : ℕ → List NodeRow → ℕ → Bool
is_directory least rows next = are_ascending least (ids_of rows) next && names_are_distinct (node_names rows)

-- the node with this name, which may be a node that left; None if no node has the name
abbrev pub node_named : List NodeRow → List ℕ → Option ℕ
node_named rows name = option_map (λ row. row.id) (find (λ row. bytes_eq name row.name) rows)

-- the datacenter and the rack of a node; None if the node is not registered
abbrev pub place_in : List NodeRow → ℕ → Option (List ℕ × List ℕ)
place_in rows n =
    let place : NodeRow → List ℕ × List ℕ = λ row. (row.dc, row.rack) in option_map place (row_of rows n)

-- the directory after a registration: the row of the new node is last and has the next id
abbrev pub registered : Registry → List ℕ → List ℕ → List ℕ → Registry
registered old name dc rack =
    let row : NodeRow = record { id = old.next; name = name; dc = dc; rack = rack; left = false } in
    record { rows = old.rows ++ row ∷ []; next = old.next + 1 }

-- the rows of the other nodes
abbrev pub other_rows : List NodeRow → ℕ → List NodeRow
other_rows rows n = filter (λ row. not (row.id == n)) rows

-- the rows after the node n is marked as left
abbrev pub marked_left : List NodeRow → ℕ → List NodeRow
marked_left rows n = map (marked n) rows
