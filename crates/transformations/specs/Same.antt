-- Whether two commands are equal, as a test that computes; `Command::same` says that it is equality.
use Rattle.std.specs.Prelude.{Bool, true, false, ◌&&◌, ◌==◌}
use Rattle.std.specs.Cmp.Lexicographic.{pointwise}
use Rattle.std.specs.Ordering.{int_eq}
use Rattle.std.specs.Str.{bytes_eq}
use Rattle.cluster_terms.specs.Replication.{same_replication}
use Rattle.transformations.specs.Movements.{same_kind}
use Rattle.transformations.specs.declared.command.Command.{Command}
use Rattle.transformations.specs.declared.command.Command.TheVariants.{Register, Unregister, UnsafeJoin, Keyspace, DropKeyspace, PrepareJoin, PrepareMove, PrepareLeave, PrepareReplace, Step, Cancel}
use Rattle.transformations.specs.declared.sequence.Goal.{Goal}
use Rattle.transformations.specs.declared.sequence.Goal.TheVariants as goal

-- whether two goals are equal
abbrev pub same_goal : Goal → Goal → Bool
same_goal goal.Start goal.Start = true
same_goal goal.Mid goal.Mid = true
same_goal goal.Finish goal.Finish = true
same_goal _ _ = false

-- whether two commands are equal and on a movement
abbrev pub same_movement : Command → Command → Bool
same_movement (PrepareJoin node tokens) (PrepareJoin n ts) = (node == n) && pointwise int_eq tokens ts
same_movement (PrepareMove node token) (PrepareMove n t) = (node == n) && int_eq token t
same_movement (PrepareLeave node) (PrepareLeave n) = node == n
same_movement (PrepareReplace node gone) (PrepareReplace n g) = (node == n) && (gone == g)
same_movement (Step goal kind node) (Step g k n) = same_goal goal g && (same_kind kind k && (node == n))
same_movement (Cancel node) (Cancel n) = node == n
same_movement _ _ = false

-- whether two commands are equal
abbrev pub same_command : Command → Command → Bool
same_command (Register name dc rack) (Register n d r) = bytes_eq name n && (bytes_eq dc d && bytes_eq rack r)
same_command (Unregister node) (Unregister n) = node == n
same_command (UnsafeJoin node tokens) (UnsafeJoin n ts) = (node == n) && pointwise int_eq tokens ts
same_command (Keyspace name replication) (Keyspace n r) = bytes_eq name n && same_replication replication r
same_command (DropKeyspace name) (DropKeyspace n) = bytes_eq name n
same_command command other = same_movement command other
