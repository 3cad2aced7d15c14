-- A ring with one of the datacenters that have replicas in it.
use Rattle.std.specs.Prelude.{ℕ, List, map}
use Rattle.cluster_terms.specs.declared.node.NodeRow.{NodeRow}
use Rattle.cluster_terms.specs.declared.token.Pair.{Pair}

-- the pairs of a ring, the registered nodes, and a datacenter with its number of replicas
pub record RingPart : Type 0 where
  pub ring : List Pair
  pub nodes : List NodeRow
  pub factor : List ℕ × ℕ

-- the datacenters of some parts, each with its number of replicas
abbrev pub factors_of : List RingPart → List (List ℕ × ℕ)
factors_of parts = map (λ part. part.factor) parts
