-- Groups that have one shape in the fixed ring and in the widest set of pairs.
use Rattle.std.specs.Prelude.{if◌then◌else◌, List, Option, Some, None}
use Rattle.cluster_terms.specs.Group.{Group, nodes_of}
use Rattle.cluster_terms.specs.Reach.{same_shape}
use Rattle.cluster_terms.specs.declared.token.Pair.{Pair}
use Rattle.node_directory.specs.Shape.{shape_of}
use Rattle.node_directory.specs.declared.shape.Shape.{Shape}

-- the shape of a group, if it is the same in the fixed ring and in the widest set of pairs
abbrev pub common_shape : Group → List Pair → List Pair → Option Shape
common_shape g fixed widest = if same_shape g fixed widest then Some (shape_of (nodes_of fixed) g) else None
