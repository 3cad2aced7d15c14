-- The parts of a ring, one for each datacenter.
use Rattle.std.specs.Prelude.{ℕ, ℤ, Bool, List, map}
use Rattle.cluster_terms.specs.Group.{is_replica}
use Rattle.cluster_terms.specs.Replication.{datacenter_group}
use Rattle.cluster_terms.specs.declared.node.NodeRow.{NodeRow}
use Rattle.cluster_terms.specs.declared.token.Pair.{Pair}
use Rattle.topology_strategy.specs.DatacenterRing.{RingPart}

-- whether a node is a replica of the datacenter at a token
abbrev pub is_replica_in : RingPart → ℤ → ℕ → Bool
is_replica_in part x v = is_replica (datacenter_group part.nodes part.factor) x part.ring v

-- the parts of a ring, one for each of these datacenters
abbrev pub parts_of : List Pair → List NodeRow → List (List ℕ × ℕ) → List RingPart
parts_of ring nodes factors =
    let part : List ℕ × ℕ → RingPart = λ f. record { ring = ring; nodes = nodes; factor = f } in map part factors
