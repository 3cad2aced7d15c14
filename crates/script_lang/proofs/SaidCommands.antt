-- What holds of the command of each form holds of the commands of lines.
use Rattle.std.proofs.Common.{◌≡◌, ℕ, ◌^◌, ◌<◌, ◌≤◌, if◌then◌else◌, ℤ, Bool, true, false, ◌&&◌, nat_le, List, [], ◌∷◌, length, Option, Some, None, option_and_then, option_map, codes, IsTrue, refl}
use Rattle.std.specs.List.{AllByRecursion}
use Rattle.std.specs.Option.{IfSome}
use Rattle.std.specs.Str.{bytes_eq}
use Rattle.std.proofs.lemmas.Bool.{and_parts}
use Rattle.std.proofs.lemmas.Option.{IfSome_then}
use Rattle.cluster_terms.specs.Arc.{IsToken}
use Rattle.cluster_terms.specs.Name.{is_name}
use Rattle.cluster_terms.specs.Replication.{IsReplication}
use Rattle.cluster_terms.specs.ReplicationText.{words_of, replication_of_words}
use Rattle.cluster_terms.specs.declared.replication.Replication.{Replication}
use Rattle.transformations.specs.declared.command.Command.{Command}
use Rattle.transformations.specs.declared.command.Command.TheVariants.{Register, UnsafeJoin, Keyspace, DropKeyspace, PrepareJoin, PrepareMove, PrepareReplace}
use Rattle.transformations.specs.Words.{node_commands}
use Rattle.script_lang.specs.Grammar as spec
use Rattle.script_lang.specs.declared.script_line.ScriptLine.{ScriptLine}
use Rattle.script_lang.specs.declared.script_line.ScriptLine.TheVariants.{Commit, Follower, Deliver, Snapshot, Ask, Give, Place, Nodes, Quorum, Local}
use Rattle.script_lang.proofs.LineTokens.{AreNodeAndTokens, AreTokens, IsNode, of_max, of_node, of_node_and_tokens, of_number, of_token}
use Rattle.script_lang.proofs.OptionValues.{chained, each_chained, each_found, each_mapped, either, mapped, where_true}
use Rattle.script_lang.proofs.ReplicationWords.{of_replication}

-- it holds of the command of each form, whatever names, nodes, tokens and replication the words give it
pub record HoldsOfForms (P : Command → Type 0) : Type 0 where
  pub register : (name dc rack : List ℕ) → IsTrue (is_name name) → IsTrue (is_name dc) → IsTrue (is_name rack) → P (Register name dc rack)
  pub unsafe_join : (node : ℕ) (tokens : List ℤ) → IsNode node → AreTokens tokens → P (UnsafeJoin node tokens)
  pub keyspace : (name : List ℕ) (replication : Replication) → IsTrue (is_name name) → IsReplication replication → P (Keyspace name replication)
  pub drop_keyspace : (name : List ℕ) → IsTrue (is_name name) → P (DropKeyspace name)
  pub prepare_join : (node : ℕ) (tokens : List ℤ) → IsNode node → AreTokens tokens → P (PrepareJoin node tokens)
  pub prepare_move : (node : ℕ) (token : ℤ) → IsNode node → IsToken token → P (PrepareMove node token)
  pub prepare_replace : (node gone : ℕ) → IsNode node → IsNode gone → P (PrepareReplace node gone)
  pub of_node : (node : ℕ) → IsNode node → AllByRecursion (λ row. P (row.1 node)) node_commands

-- what a line holds if P holds of its command: an id below 2^64, the token of a query, and how many entries a reply may
-- have
abbrev pub HoldsOfLine : (Command → Type 0) → ScriptLine → Type 0
HoldsOfLine P (Commit id command) = (id < 2 ^ 64) × P command
HoldsOfLine P (Ask name max) = (1 ≤ max) × (max ≤ 1024)
HoldsOfLine P (Quorum target keyspace token) = IsToken token
HoldsOfLine P (Local target keyspace dc token) = IsToken token
HoldsOfLine P said = Unit {0}

module _ (P : Command → Type 0) (of : HoldsOfForms P) where
  -- ---- commands

  of_register : (words : List (List ℕ)) → IfSome (spec.register_command words) P
  unfolding spec.register_command
  of_register [] = tt
  of_register (name ∷ []) = tt
  of_register (name ∷ dc ∷ []) = tt
  of_register (name ∷ dc ∷ rack ∷ []) =
      where_true P (is_name name && is_name dc && is_name rack) (Register name dc rack)
      (λ e. let names : (is_name name && is_name dc) ≡ true = (and_parts (is_name name && is_name dc) (is_name rack) e).0 in
      of.register name dc rack (and_parts (is_name name) (is_name dc) names).0 (and_parts (is_name name) (is_name dc) names).1 (and_parts (is_name name && is_name dc) (is_name rack) e).1)
  of_register (name ∷ dc ∷ rack ∷ word ∷ words) = tt

  -- a node and tokens
  of_pair : (made : ℕ × List ℤ → Command) (holds : (p : ℕ × List ℤ) → AreNodeAndTokens p → P (made p)) (words : List (List ℕ)) → IfSome (option_map made (spec.node_and_tokens words)) P
  of_pair made holds words = mapped made P (spec.node_and_tokens words) (IfSome_then (spec.node_and_tokens words) {P = AreNodeAndTokens} {Q = λ p. P (made p)} (of_node_and_tokens words) holds)

  of_unsafe_join : (words : List (List ℕ)) → IfSome (spec.unsafe_join_command words) P
  unfolding spec.unsafe_join_command
  of_unsafe_join words = of_pair (λ ((node, tokens) : ℕ × List ℤ). UnsafeJoin node tokens) (λ p are. of.unsafe_join p.0 p.1 are.0 are.1) words

  of_prepare_join : (words : List (List ℕ)) → IfSome (spec.prepare_join_command words) P
  unfolding spec.prepare_join_command
  of_prepare_join words = of_pair (λ ((node, tokens) : ℕ × List ℤ). PrepareJoin node tokens) (λ p are. of.prepare_join p.0 p.1 are.0 are.1) words

  -- a node and one word more
  of_node_and : {A : Type 0} {R : A → Type 0} (made : ℕ → A → Command) (holds : (n : ℕ) → IsNode n → (a : A) → R a → P (made n a)) (node : List ℕ) (o : Option A) → IfSome o R → IfSome (option_and_then (λ n. option_map (made n) o) (spec.node_of node)) P
  of_node_and {A} {R} made holds node o read =
      chained _ IsNode P (λ n is. mapped (made n) P o (IfSome_then o {P = R} {Q = λ a. P (made n a)} read (holds n is))) (spec.node_of node) (of_node node)

  of_prepare_move : (words : List (List ℕ)) → IfSome (spec.prepare_move_command words) P
  unfolding spec.prepare_move_command
  of_prepare_move [] = tt
  of_prepare_move (node ∷ []) = tt
  of_prepare_move (node ∷ token ∷ []) = of_node_and PrepareMove (λ n is t. of.prepare_move n t is) node (spec.token_of token) (of_token token)
  of_prepare_move (node ∷ token ∷ word ∷ words) = tt

  of_prepare_replace : (words : List (List ℕ)) → IfSome (spec.prepare_replace_command words) P
  unfolding spec.prepare_replace_command
  of_prepare_replace [] = tt
  of_prepare_replace (node ∷ []) = tt
  of_prepare_replace (node ∷ gone ∷ []) = of_node_and PrepareReplace (λ n is m. of.prepare_replace n m is) node (spec.node_of gone) (of_node gone)
  of_prepare_replace (node ∷ gone ∷ word ∷ words) = tt

  of_keyspace : (words : List (List ℕ)) → IfSome (spec.keyspace_command words) P
  unfolding spec.keyspace_command
  of_keyspace [] = tt
  of_keyspace (name ∷ words) = by (is_name name) refl
    where
      within : is_name name ≡ true → (o : Option Replication) → IfSome o IsReplication → IfSome (option_map (Keyspace name) o) P
      within e None h = tt
      within e (Some r) h = of.keyspace name r e h

      by : (b : Bool) → is_name name ≡ b → IfSome (if b then option_map (Keyspace name) (replication_of_words words) else None) P
      by true e = within e (replication_of_words words) (of_replication words)
      by false e = tt

  of_drop_keyspace : (words : List (List ℕ)) → IfSome (spec.drop_keyspace_command words) P
  unfolding spec.drop_keyspace_command
  of_drop_keyspace [] = tt
  of_drop_keyspace (name ∷ []) = where_true P (is_name name) (DropKeyspace name) (of.drop_keyspace name)
  of_drop_keyspace (name ∷ word ∷ words) = tt

  of_node_command : (word : List ℕ) (words : List (List ℕ)) → IfSome (spec.node_only_command word words) P
  unfolding spec.node_only_command
  of_node_command word [] = tt
  of_node_command word (node ∷ []) =
      chained (spec.command_on word) IsNode P
      (λ n is. each_found (λ row. row.1 n) P (λ row. bytes_eq word row.0) node_commands (of.of_node n is)) (spec.node_of node) (of_node node)
  of_node_command word (node ∷ other ∷ words) = tt

  of_command_named : (word : List ℕ) (words : List (List ℕ)) → IfSome (spec.command_named word words) P
  unfolding spec.command_named
  of_command_named word words =
      either _ (bytes_eq word (codes "register")) _ _ (of_register words)
      (either _ (bytes_eq word (codes "unsafe-join")) _ _ (of_unsafe_join words)
      (either _ (bytes_eq word (codes "keyspace")) _ _ (of_keyspace words)
      (either _ (bytes_eq word (codes "drop-keyspace")) _ _ (of_drop_keyspace words)
      (either _ (bytes_eq word (codes "prepare-join")) _ _ (of_prepare_join words)
      (either _ (bytes_eq word (codes "prepare-move")) _ _ (of_prepare_move words)
      (either _ (bytes_eq word (codes "prepare-replace")) _ _ (of_prepare_replace words) (of_node_command word words)))))))

  of_command : (words : List (List ℕ)) → IfSome (spec.command_of words) P
  unfolding spec.command_of
  of_command [] = tt
  of_command (word ∷ words) = of_command_named word words

  -- ---- lines

  abbrev IsSo : ScriptLine → Type 0
  IsSo = HoldsOfLine P

  of_commit : (words : List (List ℕ)) → IfSome (spec.commit_in words) IsSo
  unfolding spec.commit_in
  of_commit [] = tt
  of_commit (id ∷ words) =
      chained _ (λ n. n < 2 ^ 64) IsSo (λ n is. mapped (Commit n) IsSo (spec.command_of words) (IfSome_then (spec.command_of words) {P = P} {Q = λ c. IsSo (Commit n c)} (of_command words) (λ c holds. (is, holds))))
      (spec.number_below (2 ^ 64) id) (of_number (2 ^ 64) id)

  of_follower : (words : List (List ℕ)) → IfSome (spec.follower_in words) IsSo
  unfolding spec.follower_in
  of_follower [] = tt
  of_follower (name ∷ []) = where_true IsSo (is_name name) (Follower name) (λ e. tt)
  of_follower (name ∷ word ∷ words) = tt

  -- a follower's name and a number
  of_handed : (line : List ℕ → ℕ → ScriptLine) (holds : (name : List ℕ) (epoch : ℕ) → IsSo (line name epoch)) (name epoch : List ℕ)
      → IfSome (if is_name name then option_map (line name) (spec.number_below (2 ^ 64) epoch) else None) IsSo
  of_handed line holds name epoch = either IsSo (is_name name) _ None (each_mapped (line name) IsSo (holds name) (spec.number_below (2 ^ 64) epoch)) tt

  of_deliver : (words : List (List ℕ)) → IfSome (spec.deliver_in words) IsSo
  unfolding spec.deliver_in
  of_deliver [] = tt
  of_deliver (name ∷ []) = tt
  of_deliver (name ∷ epoch ∷ []) = of_handed Deliver (λ name epoch. tt) name epoch
  of_deliver (name ∷ epoch ∷ word ∷ words) = tt

  of_snapshot : (words : List (List ℕ)) → IfSome (spec.snapshot_in words) IsSo
  unfolding spec.snapshot_in
  of_snapshot [] = tt
  of_snapshot (name ∷ []) = tt
  of_snapshot (name ∷ epoch ∷ []) = of_handed Snapshot (λ name epoch. tt) name epoch
  of_snapshot (name ∷ epoch ∷ word ∷ words) = tt

  of_ask : (words : List (List ℕ)) → IfSome (spec.ask_in words) IsSo
  unfolding spec.ask_in
  of_ask [] = tt
  of_ask (name ∷ []) = tt
  of_ask (name ∷ max ∷ []) = either IsSo (is_name name) _ None (mapped (Ask name) IsSo (spec.max_of max) (of_max max)) tt
  of_ask (name ∷ max ∷ word ∷ words) = tt

  of_give : (words : List (List ℕ)) → IfSome (spec.give_in words) IsSo
  unfolding spec.give_in
  of_give [] = tt
  of_give (name ∷ []) = tt
  of_give (name ∷ number ∷ []) = of_handed Give (λ name number. tt) name number
  of_give (name ∷ number ∷ word ∷ words) = tt

  of_place : (words : List (List ℕ)) → IfSome (spec.place_line words) IsSo
  unfolding spec.place_line
  of_place [] = tt
  of_place (target ∷ []) = tt
  of_place (target ∷ name ∷ []) = either IsSo (is_name name) _ None (each_mapped (λ t. Place t name) IsSo (λ t. tt) (spec.target_of target)) tt
  of_place (target ∷ name ∷ word ∷ words) = tt

  of_nodes : (words : List (List ℕ)) → IfSome (spec.nodes_line words) IsSo
  unfolding spec.nodes_line
  of_nodes [] = tt
  of_nodes (target ∷ []) = each_mapped Nodes IsSo (λ t. tt) (spec.target_of target)
  of_nodes (target ∷ word ∷ words) = tt

  of_quorum : (words : List (List ℕ)) → IfSome (spec.quorum_line words) IsSo
  unfolding spec.quorum_line
  of_quorum [] = tt
  of_quorum (target ∷ []) = tt
  of_quorum (target ∷ name ∷ []) = tt
  of_quorum (target ∷ name ∷ token ∷ []) =
      either IsSo (is_name name) _ None (each_chained _ IsSo (λ t. mapped (Quorum t name) IsSo (spec.token_of token) (of_token token)) (spec.target_of target)) tt
  of_quorum (target ∷ name ∷ token ∷ word ∷ words) = tt

  of_local : (words : List (List ℕ)) → IfSome (spec.local_line words) IsSo
  unfolding spec.local_line
  of_local [] = tt
  of_local (target ∷ []) = tt
  of_local (target ∷ name ∷ []) = tt
  of_local (target ∷ name ∷ dc ∷ []) = tt
  of_local (target ∷ name ∷ dc ∷ token ∷ []) =
      either IsSo (is_name name && is_name dc) _ None (each_chained _ IsSo (λ t. mapped (Local t name dc) IsSo (spec.token_of token) (of_token token)) (spec.target_of target)) tt
  of_local (target ∷ name ∷ dc ∷ token ∷ word ∷ words) = tt

  pub of_words : (words : List (List ℕ)) → IfSome (spec.line_of_words words) IsSo
  unfolding spec.line_of_words
  of_words [] = tt
  of_words (word ∷ words) =
      either _ (bytes_eq word (codes "commit")) _ _ (of_commit words)
      (either _ (bytes_eq word (codes "follower")) _ _ (of_follower words)
      (either _ (bytes_eq word (codes "deliver")) _ _ (of_deliver words)
      (either _ (bytes_eq word (codes "snapshot")) _ _ (of_snapshot words)
      (either _ (bytes_eq word (codes "ask")) _ _ (of_ask words)
      (either _ (bytes_eq word (codes "give")) _ _ (of_give words)
      (either _ (bytes_eq word (codes "place")) _ _ (of_place words)
      (either _ (bytes_eq word (codes "nodes")) _ _ (of_nodes words)
      (either _ (bytes_eq word (codes "quorum")) _ _ (of_quorum words)
      (either _ (bytes_eq word (codes "local")) _ _ (of_local words) tt)))))))))

  pub of_line : (bytes : List ℕ) → IfSome (spec.line_of bytes) IsSo
  unfolding spec.line_of
  of_line bytes = either IsSo (nat_le (length bytes) 16384) _ None (of_words (words_of bytes)) tt
