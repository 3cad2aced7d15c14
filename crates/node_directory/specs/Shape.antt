-- The shape of a group in a ring, which the contract of `shape_of` cites.
use Rattle.std.specs.Prelude.{ℕ, List}
use Rattle.cluster_terms.specs.Group.{Group, wanted, spare}
use Rattle.node_directory.specs.declared.shape.Shape.{Shape}

-- the number of replicas of a group in a ring with these nodes, and how many may stand in a rack that already has one
abbrev pub shape_of : List ℕ → Group → Shape
shape_of ns g = record { wanted = wanted g ns; spare = spare g ns }
