-- Replications: their groups, and the number of replicas that they ask for.
use Rattle.std.specs.Prelude.{ℕ, Bool, false, ◌&&◌, ◌==◌, if◌then◌else◌, List, [], ◌∷◌, map, Option, Some, None}
use Rattle.std.specs.Cmp.Lexicographic.{pointwise}
use Rattle.std.specs.Str.{bytes_eq}
use Rattle.cluster_terms.specs.Factors.{IsFactors, sum_of_factors}
use Rattle.cluster_terms.specs.Group.{Group}
use Rattle.cluster_terms.specs.NodeRow.{row_of}
use Rattle.cluster_terms.specs.Rf.{IsFactor}
use Rattle.cluster_terms.specs.declared.node.NodeRow.{NodeRow}
use Rattle.cluster_terms.specs.declared.replication.Replication.{Replication}
use Rattle.cluster_terms.specs.declared.replication.Replication.TheVariants.{Simple, Topology}

-- the rack of a row, if the row is in this datacenter
abbrev pub rack_within : List ℕ → Option NodeRow → Option (List ℕ)
rack_within dc None = None
rack_within dc (Some row) = if bytes_eq row.dc dc then Some row.rack else None

-- the group of all nodes, counted as one rack
abbrev pub whole_group : ℕ → Group
whole_group rf = record { rf = rf; rack_of = λ n. Some [] }

-- the group of a datacenter's nodes, with their racks
abbrev pub datacenter_group : List NodeRow → List ℕ × ℕ → Group
datacenter_group nodes f = record { rf = f.1; rack_of = λ n. rack_within f.0 (row_of nodes n) }

-- the groups of a replication: for SimpleStrategy one group of all nodes, for NetworkTopologyStrategy a group for each
-- named datacenter
abbrev pub groups_of : List NodeRow → Replication → List Group
groups_of nodes (Simple rf) = whole_group rf ∷ []
groups_of nodes (Topology factors) = map (datacenter_group nodes) factors

-- the number of replicas asked for in all
abbrev pub total_of : Replication → ℕ
total_of (Simple rf) = rf
total_of (Topology factors) = sum_of_factors factors

-- a replication is valid: it has a valid factor, or valid factors
abbrev pub IsReplication : Replication → Type 0
IsReplication (Simple rf) = IsFactor rf
IsReplication (Topology factors) = IsFactors factors

-- whether two rows have the same datacenter and the same factor
abbrev pub same_factor_row : List ℕ × ℕ → List ℕ × ℕ → Bool
same_factor_row f e = bytes_eq f.0 e.0 && (f.1 == e.1)

-- whether two replications have the same strategy and the same factors
abbrev pub same_replication : Replication → Replication → Bool
same_replication (Simple rf) (Simple other) = rf == other
same_replication (Simple rf) (Topology others) = false
same_replication (Topology factors) (Simple other) = false
same_replication (Topology factors) (Topology others) = pointwise same_factor_row factors others
