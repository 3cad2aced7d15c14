-- The replicas that a strategy places on a ring, which the contract of `Placer` cites.
use Rattle.std.specs.Prelude.{◌≡◌, ℕ, ℤ, List, [], ◌∷◌}
use Rattle.cluster_terms.specs.Group.{place}
use Rattle.cluster_terms.specs.Replication.{groups_of, whole_group}
use Rattle.cluster_terms.specs.declared.node.NodeRow.{NodeRow}
use Rattle.cluster_terms.specs.declared.replication.Replication.{Replication}
use Rattle.cluster_terms.specs.declared.replication.Replication.TheVariants as replication
use Rattle.cluster_terms.specs.declared.token.Pair.{Pair}
use Rattle.topology_strategy.specs.GroupedRing.{homes_of, placement_at}
use Rattle.replica_placer.specs.declared.placer.Placer.{Placer}
use Rattle.replica_placer.specs.declared.placer.Placer.TheVariants.{Simple, Topology}

-- the replicas that a placer gives at a token
abbrev pub placed_by : Placer → ℤ → List ℕ
placed_by (Simple ring rf) x = place (whole_group rf ∷ []) x ring.now
placed_by (Topology divided) x = placement_at divided x

-- a placer gives the replicas of a replication on a ring
abbrev pub PlacesOn : List Pair → List NodeRow → Replication → Placer → Type 0
PlacesOn ring nodes replication placer = (x : ℤ) → placed_by placer x ≡ place (groups_of nodes replication) x ring

-- a replication in the datacenters alone that have a node of one of these pairs
abbrev pub at_homes : List NodeRow → List Pair → Replication → Replication
at_homes nodes pairs (replication.Simple rf) = replication.Simple rf
at_homes nodes pairs (replication.Topology factors) = replication.Topology (homes_of nodes pairs factors)
