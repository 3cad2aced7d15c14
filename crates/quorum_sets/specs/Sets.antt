-- The sets of nodes for QUORUM and for LOCAL_QUORUM.
use Rattle.std.specs.Prelude.{ℕ, List, IfSome}
use Rattle.cluster_terms.specs.Quorum.{Sets, datacenter_of, local_sets}
use Rattle.cluster_terms.specs.Replication.{total_of}
use Rattle.cluster_terms.specs.declared.node.NodeRow.{NodeRow}
use Rattle.cluster_terms.specs.declared.replication.Replication.{Replication}

-- the sets for QUORUM: the number of replicas that the replication asks for in all, and all nodes that are read and
-- written
abbrev pub whole_sets : Replication → List ℕ → List ℕ → Sets
whole_sets replication reads writes = record { total = total_of replication; reads = reads; writes = writes }

-- a fact of the sets for LOCAL_QUORUM in a datacenter, if the factors name the datacenter
abbrev pub IfDatacenter : List (List ℕ × ℕ) → List ℕ → List NodeRow → List ℕ → List ℕ → (Sets → Type 0) → Type 0
IfDatacenter factors dc nodes reads writes P =
    IfSome (datacenter_of factors dc) (λ f. P (local_sets nodes f reads writes))
