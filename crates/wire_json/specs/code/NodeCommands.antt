-- Commands with a node alone.
use Rattle.std.specs.Prelude.{ℕ, List, find, Option, option_map}
use Rattle.std.specs.Str.{bytes_eq}
use Rattle.transformations.specs.Words.{node_commands}
use Rattle.transformations.specs.declared.command.Command.{Command}

-- the command with this word and this node, if its only argument is a node
abbrev pub command_on : List ℕ → ℕ → Option Command
command_on word node = option_map (λ row. row.1 node) (find (λ row. bytes_eq word row.0) node_commands)
