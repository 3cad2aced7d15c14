-- The one text of an entry.
use Rattle.std.specs.Prelude.{ℕ, ℤ, List, [], ◌∷◌, ◌++◌, map, codes}
use Rattle.cluster_terms.specs.ReplicationText as replication
use Rattle.cluster_terms.specs.declared.replication.Replication.{Replication}
use Rattle.serde_json.specs.Data.{Data, string, number, array, object, unsigned, Items, Members, no_members, member}
use Rattle.serde_json.specs.Find.{of_integer}
use Rattle.serde_json.specs.View.{items_of}
use Rattle.serde_json.specs.Written.{compact_text}
use Rattle.transformations.specs.Words.{drop_keyspace_word, goal_word, keyspace_word, movement_word, prepare_join_word, prepare_move_word, prepare_replace_word, register_word, unsafe_join_word}
use Rattle.transformations.specs.declared.command.Command.{Command}
use Rattle.transformations.specs.declared.command.Command.TheVariants.{Register, Unregister, UnsafeJoin, Keyspace, DropKeyspace, PrepareJoin, PrepareMove, PrepareLeave, PrepareReplace, Step, Cancel}
use Rattle.transformations.specs.declared.entry.Entry.{Entry}

-- a member with a text, before other members
abbrev pub with_text : List ℕ → List ℕ → Members → Members
with_text key text members = member key (string text) members

-- a member with a number, before others
abbrev pub with_number : List ℕ → ℕ → Members → Members
with_number key n members = member key (number (unsigned n)) members

-- the items of a list, each in its form
abbrev pub list_items : {A : Type 0} → (A → Data) → List A → Items
list_items data_of xs = items_of (map data_of xs)

-- a member with a list, before others
abbrev pub with_list : {A : Type 0} → (A → Data) → List ℕ → List A → Members → Members
with_list data_of key xs members = member key (array (list_items data_of xs)) members

-- a token
abbrev pub token_data : ℤ → Data
token_data t = number (of_integer t)

-- the object of a command whose only argument is a node
abbrev pub node_data : List ℕ → ℕ → Data
node_data word node = object (with_text (codes "kind") word (with_number (codes "node") node no_members))

-- the object of a command with a node and tokens
abbrev pub tokens_data : List ℕ → ℕ → List ℤ → Data
tokens_data word node tokens =
    object (with_text (codes "kind") word (with_number (codes "node") node (with_list token_data (codes "tokens") tokens no_members)))

-- the object of `keyspace`
abbrev pub keyspace_data : List ℕ → Replication → Data
keyspace_data name r =
    object (with_text (codes "kind") keyspace_word (with_text (codes "name") name (with_text (codes "replication") (replication.text_of r) no_members)))

-- the object of `prepare-replace`
abbrev pub replace_data : ℕ → ℕ → Data
replace_data node gone =
    object (with_number (codes "gone") gone (with_text (codes "kind") prepare_replace_word (with_number (codes "node") node no_members)))

-- the object of a command
abbrev pub command_data : Command → Data
command_data (Register name dc rack) =
    object (with_text (codes "dc") dc (with_text (codes "kind") register_word (with_text (codes "name") name (with_text (codes "rack") rack no_members))))
command_data (Unregister node) = node_data (codes "unregister") node
command_data (UnsafeJoin node tokens) = tokens_data unsafe_join_word node tokens
command_data (Keyspace name r) = keyspace_data name r
command_data (DropKeyspace name) = object (with_text (codes "kind") drop_keyspace_word (with_text (codes "name") name no_members))
command_data (PrepareJoin node tokens) = tokens_data prepare_join_word node tokens
command_data (PrepareMove node token) =
    object (with_text (codes "kind") prepare_move_word (with_number (codes "node") node (member (codes "token") (token_data token) no_members)))
command_data (PrepareLeave node) = node_data (codes "prepare-leave") node
command_data (PrepareReplace node gone) = replace_data node gone
command_data (Step goal kind node) = node_data (goal_word goal ++ movement_word kind) node
command_data (Cancel node) = node_data (codes "cancel") node

-- the object of an entry
abbrev pub entry_data : Entry → Data
entry_data entry =
    object (member (codes "command") (command_data entry.cmd) (with_number (codes "entry") entry.id (with_number (codes "epoch") entry.epoch no_members)))

-- the text of an entry
unfoldable pub entry_text : Entry → List ℕ
entry_text entry = compact_text (entry_data entry)

-- the line of an entry
abbrev pub entry_line : Entry → List ℕ
entry_line entry = entry_text entry ++ 10 ∷ []
