-- Shapes of groups that a walk can hold.
use Rattle.std.specs.Prelude.{◌≤◌}
use Rattle.node_directory.specs.declared.shape.Shape.{Shape}

-- a group of this shape is to have at most 16 replicas
abbrev pub IsFew : Shape → Type 0
IsFew shape = shape.wanted ≤ 16
