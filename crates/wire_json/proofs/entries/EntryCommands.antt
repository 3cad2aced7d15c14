-- What holds of the commands of each kind holds of the commands of lines.
use Rattle.std.proofs.Common.{◌≡◌, ℕ, ℤ, Bool, true, false, cond, if◌then◌else◌, List, [], ◌∷◌, Option, Some, None, option_map, option_and_then, Ok, codes, refl, sym, subst}
use Rattle.std.specs.List.{AllByRecursion, find}
use Rattle.std.specs.Option.{IfSome}
use Rattle.std.specs.Str.{bytes_eq}
use Rattle.cluster_terms.specs.Name.{is_name}
use Rattle.cluster_terms.specs.ReplicationText.{replication_of}
use Rattle.cluster_terms.specs.declared.replication.Replication.{Replication}
use Rattle.serde_json.specs.Data.{Data}
use Rattle.serde_json.specs.Find.{as_array, get}
use Rattle.transformations.specs.History.{are_tokens}
use Rattle.transformations.specs.Words.{node_commands}
use Rattle.transformations.specs.declared.command.Command.{Command}
use Rattle.transformations.specs.declared.command.Command.TheVariants.{Register, UnsafeJoin, Keyspace, DropKeyspace, PrepareJoin, PrepareMove, PrepareReplace}
use Rattle.transformations.specs.declared.entry.Entry.{Entry}
use Rattle.wire_json.specs.Kinds as spec
use Rattle.wire_json.specs.code.NodeCommands as code
use Rattle.wire_json.specs.Kinds.{Kind}
use Rattle.wire_json.specs.Reading.{entry_of, reading}
use Rattle.wire_json.specs.Values.{each_of, has_keys, list_of, name_at, node_at, text_at, token_at, token_of, tokens_at}
use Rattle.wire_json.specs.declared.line.Line.TheVariants as line
use Rattle.wire_json.proofs.entries.EntryParts.{entry_parts}
use Rattle.wire_json.proofs.json_values.KindsLemmas.{no_node_command, node_command}
use Rattle.wire_json.proofs.json_values.LineParts.{reading_parts}

-- ---- what holds of the value in an option

pub IfSome-option_and_then : {X Y : Type 0} (f : X → Option Y) (Q : Y → Type 0) → ((x : X) → IfSome (f x) Q) → (o : Option X) → IfSome (option_and_then f o) Q
IfSome-option_and_then f Q all None = tt
IfSome-option_and_then f Q all (Some x) = all x

pub IfSome-where : {X Y : Type 0} (P : X → Type 0) (f : X → Option Y) (Q : Y → Type 0) → ((x : X) → P x → IfSome (f x) Q) → (o : Option X) → IfSome o P → IfSome (option_and_then f o) Q
IfSome-where P f Q all None h = tt
IfSome-where P f Q all (Some x) h = all x h

IfSome-if : {X : Type 0} (Q : X → Type 0) (b : Bool) (o p : Option X) → IfSome o Q → IfSome p Q → IfSome (if b then o else p) Q
IfSome-if Q true o p h k = h
IfSome-if Q false o p h k = k

pub IfSome-each : {X : Type 0} (Q : X → Type 0) → ((x : X) → Q x) → (o : Option X) → IfSome o Q
IfSome-each Q all None = tt
IfSome-each Q all (Some x) = all x

-- a value that passes a test
IfSome-test : {X : Type 0} (test : X → Bool) (x : X) → IfSome (if test x then Some x else None) (λ y. test y ≡ true)
IfSome-test test x = by (test x) refl
  where
    by : (b : Bool) → test x ≡ b → IfSome (if b then Some x else None) (λ y. test y ≡ true)
    by true is = is
    by false is = tt

-- ---- names and tokens

abbrev IsName : List ℕ → Type 0
IsName name = is_name name ≡ true

pub of_name : (key : List ℕ) (value : Data) → IfSome (name_at key value) IsName
of_name key value = IfSome-option_and_then _ IsName (IfSome-test is_name) (text_at key value)

abbrev AreTokens : List ℤ → Type 0
AreTokens tokens = are_tokens tokens ≡ true

of_tokens : (key : List ℕ) (value : Data) → IfSome (tokens_at key value) AreTokens
of_tokens key value =
    IfSome-option_and_then list_of AreTokens (λ values. IfSome-option_and_then _ AreTokens (IfSome-test are_tokens) (each_of token_of values)) (option_and_then as_array (get key value))

-- ---- the commands of each kind

-- it holds of the command of each kind, whatever names, tokens and texts of replications its object has
pub record HoldsOfKinds (Q : Command → Type 0) : Type 0 where
  pub register : (name dc rack : List ℕ) → IsName name → IsName dc → IsName rack → Q (Register name dc rack)
  pub unsafe_join : (node : ℕ) (tokens : List ℤ) → AreTokens tokens → Q (UnsafeJoin node tokens)
  pub keyspace : (name text : List ℕ) → IsName name → IfSome (replication_of text) (λ replication. Q (Keyspace name replication))
  pub drop_keyspace : (name : List ℕ) → IsName name → Q (DropKeyspace name)
  pub prepare_join : (node : ℕ) (tokens : List ℤ) → AreTokens tokens → Q (PrepareJoin node tokens)
  pub prepare_move : (node : ℕ) (token : ℤ) → Q (PrepareMove node token)
  pub prepare_replace : (node gone : ℕ) → Q (PrepareReplace node gone)
  pub of_node : (n : ℕ) → AllByRecursion (λ row. Q (row.1 n)) node_commands

module _ (Q : Command → Type 0) (of : HoldsOfKinds Q) where
  of_register : (value : Data) → IfSome (spec.register_of value) Q
  unfolding spec.register_of
  of_register value =
      IfSome-where IsName _ Q
      (λ name n. IfSome-where IsName _ Q
      (λ dc d. IfSome-where IsName _ Q (λ rack r. of.register name dc rack n d r) (name_at (codes "rack") value) (of_name (codes "rack") value))
      (name_at (codes "dc") value) (of_name (codes "dc") value))
      (name_at (codes "name") value) (of_name (codes "name") value)

  of_unsafe_join : (value : Data) → IfSome (spec.unsafe_join_of value) Q
  unfolding spec.unsafe_join_of
  of_unsafe_join value =
      IfSome-option_and_then _ Q (λ node. IfSome-where AreTokens _ Q (of.unsafe_join node) (tokens_at (codes "tokens") value) (of_tokens (codes "tokens") value)) (node_at (codes "node") value)

  of_prepare_join : (value : Data) → IfSome (spec.prepare_join_of value) Q
  unfolding spec.prepare_join_of
  of_prepare_join value =
      IfSome-option_and_then _ Q (λ node. IfSome-where AreTokens _ Q (of.prepare_join node) (tokens_at (codes "tokens") value) (of_tokens (codes "tokens") value)) (node_at (codes "node") value)

  of_keyspace : (value : Data) → IfSome (spec.set_keyspace_of value) Q
  unfolding spec.set_keyspace_of
  of_keyspace value = IfSome-where IsName _ Q (λ name n. made name n (text_at (codes "replication") value)) (name_at (codes "name") value) (of_name (codes "name") value)
    where
      by : (name : List ℕ) (o : Option Replication) → IfSome o (λ r. Q (Keyspace name r)) → IfSome (option_and_then (λ r. Some (Keyspace name r)) o) Q
      by name None is = tt
      by name (Some r) is = is

      made : (name : List ℕ) → IsName name → (o : Option (List ℕ)) → IfSome (option_and_then (λ r. Some (Keyspace name r)) (option_and_then replication_of o)) Q
      made name n None = tt
      made name n (Some text) = by name (replication_of text) (of.keyspace name text n)

  of_drop_keyspace : (value : Data) → IfSome (spec.drop_keyspace_of value) Q
  unfolding spec.drop_keyspace_of
  of_drop_keyspace value = IfSome-where IsName _ Q of.drop_keyspace (name_at (codes "name") value) (of_name (codes "name") value)

  of_prepare_move : (value : Data) → IfSome (spec.prepare_move_of value) Q
  unfolding spec.prepare_move_of
  of_prepare_move value =
      IfSome-option_and_then _ Q (λ node. IfSome-option_and_then _ Q (of.prepare_move node) (token_at (codes "token") value)) (node_at (codes "node") value)

  of_prepare_replace : (value : Data) → IfSome (spec.prepare_replace_of value) Q
  unfolding spec.prepare_replace_of
  of_prepare_replace value =
      IfSome-option_and_then _ Q (λ node. IfSome-option_and_then _ Q (of.prepare_replace node) (node_at (codes "gone") value)) (node_at (codes "node") value)

  -- what a test finds among some rows
  of_rows : (test : List ℕ × (ℕ → Command) → Bool) (n : ℕ) (rows : List (List ℕ × (ℕ → Command))) → AllByRecursion (λ row. Q (row.1 n)) rows → IfSome (option_map (λ row. row.1 n) (find test rows)) Q
  of_rows test n [] all = tt
  of_rows test n (row ∷ rows) all = by (test row) all.0 (of_rows test n rows all.1)
    where
      by : (b : Bool) → Q (row.1 n) → IfSome (option_map (λ row. row.1 n) (find test rows)) Q → IfSome (option_map (λ row. row.1 n) (cond b (Some row) (find test rows))) Q
      by true here found = here
      by false here found = found

  of_command_on : (word : List ℕ) (n : ℕ) → IfSome (code.command_on word n) Q
  of_command_on word n = of_rows (λ row. bytes_eq word row.0) n node_commands (of.of_node n)

  of_node_kinds : (word : List ℕ) (value : Data) → IfSome (spec.command_named spec.node_kinds word value) Q
  of_node_kinds word value = by (has_keys spec.node_keys value) refl
    where
      by : (b : Bool) → has_keys spec.node_keys value ≡ b → IfSome (spec.command_named spec.node_kinds word value) Q
      by true is =
          let all = IfSome-option_and_then (code.command_on word) Q (of_command_on word) (node_at (codes "node") value) in
          subst (λ o. IfSome o Q) (sym (node_command word value is)) all
      by false is = subst (λ o. IfSome o Q) (sym (no_node_command word value is)) tt

  -- one more kind
  of_kind : (kind : Kind) (kinds : List Kind) (word : List ℕ) (value : Data) → IfSome (kind.made value) Q → IfSome (spec.command_named kinds word value) Q
      → IfSome (spec.command_named (kind ∷ kinds) word value) Q
  of_kind kind kinds word value made others = by (bytes_eq word kind.word)
    where
      by : (b : Bool) → IfSome (option_and_then (λ (k : Kind). spec.command_by k value) (cond b (Some kind) (find (λ (k : Kind). bytes_eq word k.word) kinds))) Q
      by true = IfSome-if Q (has_keys kind.keys value) (kind.made value) None made tt
      by false = others

  of_kinds : (word : List ℕ) (value : Data) → IfSome (spec.command_named spec.kinds word value) Q
  of_kinds word value =
      of_kind spec.register (spec.unsafe_join ∷ spec.keyspace ∷ spec.drop_keyspace ∷ spec.prepare_join ∷ spec.prepare_move ∷ spec.prepare_replace ∷ spec.node_kinds) word value (of_register value)
      (of_kind spec.unsafe_join (spec.keyspace ∷ spec.drop_keyspace ∷ spec.prepare_join ∷ spec.prepare_move ∷ spec.prepare_replace ∷ spec.node_kinds) word value (of_unsafe_join value)
      (of_kind spec.keyspace (spec.drop_keyspace ∷ spec.prepare_join ∷ spec.prepare_move ∷ spec.prepare_replace ∷ spec.node_kinds) word value (of_keyspace value)
      (of_kind spec.drop_keyspace (spec.prepare_join ∷ spec.prepare_move ∷ spec.prepare_replace ∷ spec.node_kinds) word value (of_drop_keyspace value)
      (of_kind spec.prepare_join (spec.prepare_move ∷ spec.prepare_replace ∷ spec.node_kinds) word value (of_prepare_join value)
      (of_kind spec.prepare_move (spec.prepare_replace ∷ spec.node_kinds) word value (of_prepare_move value)
      (of_kind spec.prepare_replace spec.node_kinds word value (of_prepare_replace value) (of_node_kinds word value)))))))

  of_command : (value : Data) → IfSome (spec.command_of value) Q
  unfolding spec.command_of
  of_command value = IfSome-option_and_then (λ word. spec.command_named spec.kinds word value) Q (λ word. of_kinds word value) (text_at (codes "kind") value)

  of_command_at : (key : List ℕ) (value : Data) → IfSome (spec.command_at key value) Q
  of_command_at key value = IfSome-option_and_then spec.command_of Q of_command (get key value)

  -- ---- entries

  pub entry_commands : (value : Data) (entry : Entry) → entry_of value ≡ Ok entry → Q entry.cmd
  entry_commands value entry is = subst (λ o. IfSome o Q) (entry_parts value entry is).command_is (of_command_at (codes "command") value)

  -- a line
  pub reading_commands : (bytes : List ℕ) (entry : Entry) → reading bytes ≡ Ok (line.Entry entry) → Q entry.cmd
  reading_commands bytes entry is = (let parts = reading_parts bytes (line.Entry entry) is in entry_commands parts.value entry parts.made)
