-- The shapes of datacenters in a ring.
use Rattle.std.specs.Prelude.{ℕ, List, map}
use Rattle.cluster_terms.specs.Replication.{datacenter_group}
use Rattle.cluster_terms.specs.declared.node.NodeRow.{NodeRow}
use Rattle.node_directory.specs.Shape.{shape_of}
use Rattle.node_directory.specs.declared.shape.Shape.{Shape}

-- the shapes of the named datacenters in a ring with the nodes ns
abbrev pub shapes_of : List NodeRow → List (List ℕ × ℕ) → List ℕ → List Shape
shapes_of nodes factors ns = map (λ f. shape_of ns (datacenter_group nodes f)) factors
