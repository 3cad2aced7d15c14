-- The kinds of commands: the word of each, the keys of its object, and the command that the values at them make.
use Rattle.std.specs.Prelude.{ℕ, if◌then◌else◌, List, [], ◌∷◌, map, find, Option, Some, None, option_map, option_and_then, codes}
use Rattle.std.specs.Str.{bytes_eq}
use Rattle.serde_json.specs.Data.{Data}
use Rattle.serde_json.specs.Find.{get}
use Rattle.transformations.specs.Words.{drop_keyspace_word, keyspace_word, node_commands, prepare_join_word, prepare_move_word, prepare_replace_word, register_word, unsafe_join_word}
use Rattle.transformations.specs.declared.command.Command.{Command}
use Rattle.transformations.specs.declared.command.Command.TheVariants.{Register, UnsafeJoin, Keyspace, DropKeyspace, PrepareJoin, PrepareMove, PrepareReplace}
use Rattle.wire_json.specs.Values.{◌>>=◌, has_keys, name_at, node_at, replication_at, text_at, token_at, tokens_at}

-- a kind of command: its word, the keys of its object in ascending order, and the command that an object makes
pub record Kind : Type 0 where
  pub word : List ℕ
  pub keys : List (List ℕ)
  pub made : Data → Option Command

-- dc, name, rack. `do` takes its lines in order: if one gives no value, the whole gives None
unfoldable pub register_of : Data → Option Command
register_of value = do
  name ← name_at (codes "name") value
  dc ← name_at (codes "dc") value
  rack ← name_at (codes "rack") value
  Some (Register name dc rack)

abbrev pub register : Kind
register = record { word = register_word; keys = codes "dc" ∷ codes "kind" ∷ codes "name" ∷ codes "rack" ∷ []; made = register_of }

-- node, tokens
unfoldable pub unsafe_join_of : Data → Option Command
unsafe_join_of value = do
  node ← node_at (codes "node") value
  tokens ← tokens_at (codes "tokens") value
  Some (UnsafeJoin node tokens)

abbrev pub unsafe_join : Kind
unsafe_join = record { word = unsafe_join_word; keys = codes "kind" ∷ codes "node" ∷ codes "tokens" ∷ []; made = unsafe_join_of }

-- node, tokens
unfoldable pub prepare_join_of : Data → Option Command
prepare_join_of value = do
  node ← node_at (codes "node") value
  tokens ← tokens_at (codes "tokens") value
  Some (PrepareJoin node tokens)

abbrev pub prepare_join : Kind
prepare_join = record { word = prepare_join_word; keys = codes "kind" ∷ codes "node" ∷ codes "tokens" ∷ []; made = prepare_join_of }

-- name, replication
unfoldable pub set_keyspace_of : Data → Option Command
set_keyspace_of value = do
  name ← name_at (codes "name") value
  replication ← replication_at (codes "replication") value
  Some (Keyspace name replication)

abbrev pub keyspace : Kind
keyspace = record { word = keyspace_word; keys = codes "kind" ∷ codes "name" ∷ codes "replication" ∷ []; made = set_keyspace_of }

-- name
unfoldable pub drop_keyspace_of : Data → Option Command
drop_keyspace_of value = do
  name ← name_at (codes "name") value
  Some (DropKeyspace name)

abbrev pub drop_keyspace : Kind
drop_keyspace = record { word = drop_keyspace_word; keys = codes "kind" ∷ codes "name" ∷ []; made = drop_keyspace_of }

-- node, token
unfoldable pub prepare_move_of : Data → Option Command
prepare_move_of value = do
  node ← node_at (codes "node") value
  token ← token_at (codes "token") value
  Some (PrepareMove node token)

abbrev pub prepare_move : Kind
prepare_move = record { word = prepare_move_word; keys = codes "kind" ∷ codes "node" ∷ codes "token" ∷ []; made = prepare_move_of }

-- node, gone
unfoldable pub prepare_replace_of : Data → Option Command
prepare_replace_of value = do
  node ← node_at (codes "node") value
  gone ← node_at (codes "gone") value
  Some (PrepareReplace node gone)

abbrev pub prepare_replace : Kind
prepare_replace = record { word = prepare_replace_word; keys = codes "gone" ∷ codes "kind" ∷ codes "node" ∷ []; made = prepare_replace_of }

-- the keys of a command whose only argument is a node
abbrev pub node_keys : List (List ℕ)
node_keys = codes "kind" ∷ codes "node" ∷ []

-- the kind of such a command, from its word and what it makes of the node
abbrev pub of_node : List ℕ × (ℕ → Command) → Kind
of_node row = record { word = row.0; keys = node_keys; made = λ value. option_map row.1 (node_at (codes "node") value) }

-- the kinds of these commands
unfoldable pub node_kinds : List Kind
node_kinds = map of_node node_commands

-- all kinds
abbrev pub kinds : List Kind
kinds =
    register ∷ unsafe_join ∷ keyspace ∷ drop_keyspace ∷ prepare_join ∷ prepare_move ∷ prepare_replace ∷ node_kinds

-- the command of a kind in a value, which must have exactly the keys of the kind
abbrev pub command_by : Kind → Data → Option Command
command_by kind value = if has_keys kind.keys value then kind.made value else None

-- the command in a value, by the kind that has this word
abbrev pub command_named : List Kind → List ℕ → Data → Option Command
command_named ks word value = option_and_then (λ kind. command_by kind value) (find (λ kind. bytes_eq word kind.word) ks)

-- the command in a value, by the word at its key `kind`
unfoldable pub command_of : Data → Option Command
command_of value = option_and_then (λ word. command_named kinds word value) (text_at (codes "kind") value)

-- the command at a key
abbrev pub command_at : List ℕ → Data → Option Command
command_at key value = option_and_then command_of (get key value)
