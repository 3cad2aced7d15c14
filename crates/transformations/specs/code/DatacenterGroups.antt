-- Groups of replicas, by the datacenter that they stand for.
use Rattle.std.specs.Prelude.{ℕ, Bool, List, is_some, Option, Some, None}
use Rattle.cluster_terms.specs.Group.{Group, node_count}
use Rattle.cluster_terms.specs.Replication.{datacenter_group, whole_group}
use Rattle.cluster_terms.specs.declared.node.NodeRow.{NodeRow}
use Rattle.transformations.specs.Refusals.{is_short}
use Rattle.transformations.specs.declared.image.Image.{Image}

-- the group of a datacenter's nodes, or that of all nodes
abbrev pub group_at : List NodeRow → Option (List ℕ) → ℕ → Group
group_at nodes None rf = whole_group rf
group_at nodes (Some dc) rf = datacenter_group nodes (dc, rf)

-- whether a node is in this group, whatever the group's factor
abbrev pub is_in_group : List NodeRow → Option (List ℕ) → ℕ → Bool
is_in_group nodes dc n = is_some ((group_at nodes dc 0).rack_of n)

-- how many distinct nodes of this group are among some nodes, whatever the group's factor
abbrev pub different_in : List NodeRow → Option (List ℕ) → List ℕ → ℕ
different_in nodes dc ns = node_count (group_at nodes dc 0) ns

-- whether the group has node n, and no more nodes with tokens than it is to have replicas
abbrev pub is_short_at : Image → ℕ → Option (List ℕ) → ℕ → Bool
is_short_at image n dc rf = is_short image n (group_at image.nodes dc rf)
