-- A ring with the datacenters that have replicas in it.
use Rattle.std.specs.Prelude.{ℕ, ℤ, Bool, List, filter, is_some}
use Rattle.std.specs.List.{list_any}
use Rattle.cluster_terms.specs.Group.{place}
use Rattle.cluster_terms.specs.NodeRow.{row_of}
use Rattle.cluster_terms.specs.Replication.{groups_of, rack_within}
use Rattle.cluster_terms.specs.declared.node.NodeRow.{NodeRow}
use Rattle.cluster_terms.specs.declared.replication.Replication.TheVariants.{Topology}
use Rattle.cluster_terms.specs.declared.token.Pair.{Pair}

-- the pairs of a ring, the registered nodes, and the named datacenters, each with its number of replicas
pub record GroupedRing : Type 0 where
  pub ring : List Pair
  pub nodes : List NodeRow
  pub factors : List (List ℕ × ℕ)

-- the placement by NetworkTopologyStrategy in these datacenters, each with its number of replicas
abbrev pub topology_placement : List NodeRow → List (List ℕ × ℕ) → ℤ → List Pair → List ℕ
topology_placement nodes factors x ring = place (groups_of nodes (Topology factors)) x ring

-- the placement at a token of a grouped ring
abbrev pub placement_at : GroupedRing → ℤ → List ℕ
placement_at grouped x = topology_placement grouped.nodes grouped.factors x grouped.ring

-- whether one of these pairs has a node of a datacenter; and of some datacenters, those of which this is so
abbrev pub is_home : List NodeRow → List Pair → List ℕ → Bool
is_home nodes pairs dc = list_any (λ p. is_some (rack_within dc (row_of nodes p.node))) pairs

abbrev pub homes_of : List NodeRow → List Pair → List (List ℕ × ℕ) → List (List ℕ × ℕ)
homes_of nodes pairs factors = filter (λ f. is_home nodes pairs f.0) factors
