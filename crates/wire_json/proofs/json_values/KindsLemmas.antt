-- The kinds of commands that have a node alone.
use Rattle.std.proofs.Common.{◌≡◌, ℕ, Bool, true, false, cond, List, [], ◌∷◌, map, Option, Some, None, option_map, option_and_then, codes, refl, sym, ap, ◌∙◌}
use Rattle.std.specs.List.{find}
use Rattle.std.specs.Str.{bytes_eq}
use Rattle.serde_json.specs.Data.{Data}
use Rattle.transformations.specs.Words.{node_commands}
use Rattle.transformations.specs.declared.command.Command.{Command}
use Rattle.wire_json.specs.Kinds.{command_by, command_named, node_keys, of_node, node_kinds}
use Rattle.wire_json.specs.code.NodeCommands.{command_on}
use Rattle.wire_json.specs.Values.{has_keys, node_at}

-- what the first of some rows that a test accepts makes of a node
abbrev row_on : (List ℕ × (ℕ → Command) → Bool) → List (List ℕ × (ℕ → Command)) → ℕ → Option Command
row_on test rows node = option_map (λ row. row.1 node) (find test rows)

nothing : (o : Option ℕ) → option_and_then {U = Command} (λ node. None) o ≡ None
nothing None = refl
nothing (Some n) = refl

one : (f : ℕ → Command) (o : Option ℕ) → option_map f o ≡ option_and_then (λ node. Some (f node)) o
one f None = refl
one f (Some n) = refl

-- a value without the keys of a node is no such command
named_without_keys : (rows : List (List ℕ × (ℕ → Command))) (word : List ℕ) (value : Data) → has_keys node_keys value ≡ false → command_named (map of_node rows) word value ≡ None
named_without_keys [] word value other = refl
named_without_keys (row ∷ rows) word value other = by (bytes_eq word row.0) (named_without_keys rows word value other)
  where
    by : (b : Bool) → command_named (map of_node rows) word value ≡ None
        → option_and_then (λ kind. command_by kind value) (cond b (Some (of_node row)) (find (λ kind. bytes_eq word kind.word) (map of_node rows))) ≡ None
    by true rest = ap (λ b. cond b (option_map row.1 (node_at (codes "node") value)) None) other
    by false rest = rest

-- a value with these keys is what the row of its word makes of its node
named_with_keys : (rows : List (List ℕ × (ℕ → Command))) (word : List ℕ) (value : Data) → has_keys node_keys value ≡ true
    → command_named (map of_node rows) word value ≡ option_and_then (row_on (λ row. bytes_eq word row.0) rows) (node_at (codes "node") value)
named_with_keys [] word value keys = sym (nothing (node_at (codes "node") value))
named_with_keys (row ∷ rows) word value keys = by (bytes_eq word row.0) (named_with_keys rows word value keys)
  where
    by : (b : Bool) → command_named (map of_node rows) word value ≡ option_and_then (row_on (λ row. bytes_eq word row.0) rows) (node_at (codes "node") value)
        → option_and_then (λ kind. command_by kind value) (cond b (Some (of_node row)) (find (λ kind. bytes_eq word kind.word) (map of_node rows)))
        ≡ option_and_then (λ node. option_map (λ row. row.1 node) (cond b (Some row) (find (λ row. bytes_eq word row.0) rows))) (node_at (codes "node") value)
    by true rest = ap (λ b. cond b (option_map row.1 (node_at (codes "node") value)) None) keys ∙ one row.1 (node_at (codes "node") value)
    by false rest = rest

pub no_node_command : (word : List ℕ) (value : Data) → has_keys node_keys value ≡ false → command_named node_kinds word value ≡ None
unfolding node_kinds
no_node_command word value other = named_without_keys node_commands word value other

pub node_command : (word : List ℕ) (value : Data) → has_keys node_keys value ≡ true → command_named node_kinds word value ≡ option_and_then (command_on word) (node_at (codes "node") value)
unfolding node_kinds
node_command word value keys = named_with_keys node_commands word value keys
