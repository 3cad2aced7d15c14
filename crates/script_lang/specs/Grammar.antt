-- The grammar of script lines.
use Rattle.std.specs.Prelude.{ℕ, ◌+◌, ◌^◌, ◌≤◌, Bool, ◌&&◌, if◌then◌else◌, ℤ, pos, neg_ℤ, List, [], ◌∷◌, length, filter_map, Option, Some, None, is_some, option_map, option_and_then, nat_lt, nat_le, ◌==◌, codes, decimal, IsTrue}
use Rattle.std.specs.List.{list_all, find}
use Rattle.std.specs.Ordering.{int_cmp, int_eq}
use Rattle.std.specs.Set.{distinct_count}
use Rattle.std.specs.Str.{bytes_eq}
use Rattle.std.specs.Str.Parse.{digits_value}
use Rattle.cluster_terms.specs.Ascending.{ascending}
use Rattle.cluster_terms.specs.Name.{is_name}
use Rattle.cluster_terms.specs.ReplicationText.{words_of, replication_of_words}
use Rattle.transformations.specs.declared.command.Command.{Command}
use Rattle.transformations.specs.declared.command.Command.TheVariants.{Register, UnsafeJoin, Keyspace, DropKeyspace, PrepareJoin, PrepareMove, PrepareReplace}
use Rattle.transformations.specs.History.{is_command}
use Rattle.transformations.specs.Words.{drop_keyspace_word, keyspace_word, node_commands, prepare_join_word, prepare_move_word, prepare_replace_word, register_word, unsafe_join_word}
use Rattle.script_lang.specs.declared.script_line.ScriptLine.{ScriptLine}
use Rattle.script_lang.specs.declared.script_line.ScriptLine.TheVariants.{Commit, Follower, Deliver, Snapshot, Ask, Give, Place, Nodes, Quorum, Local}
use Rattle.script_lang.specs.declared.script_line.Target.{Target}
use Rattle.script_lang.specs.declared.script_line.Target.TheVariants.{Epoch, Named}

-- a number below a limit, in decimal digits without a sign or leading zeros
unfoldable pub number_below : ℕ → List ℕ → Option ℕ
number_below limit text =
    let n = digits_value 10 text in
    if bytes_eq text (decimal n) && nat_lt n limit then Some n else None

-- a token: a number, or a minus sign and a number from 1 on
unfoldable pub token_of : List ℕ → Option ℤ
token_of [] = None
token_of (c ∷ cs) =
    if c == 45
    then option_and_then (λ n. if nat_le 1 n then Some (neg_ℤ (pos n)) else None) (number_below (2 ^ 63 + 1) cs)
    else option_map pos (number_below (2 ^ 63) (c ∷ cs))

-- whether a command may list these tokens, in any order: there are 1 to 256, and none comes twice
abbrev pub are_unordered_tokens : List ℤ → Bool
are_unordered_tokens tokens = nat_le 1 (length tokens) && nat_le (length tokens) 256 && (distinct_count int_eq tokens == length tokens)

-- the tokens of a command: a line lists them in any order, and they are kept in ascending order
abbrev pub kept_tokens : List ℤ → Option (List ℤ)
kept_tokens tokens = if are_unordered_tokens tokens then Some (ascending int_cmp tokens) else None

-- the tokens in words, if each word is a TOKEN
unfoldable pub each_token_in_words : List (List ℕ) → Option (List ℤ)
each_token_in_words words = if list_all (λ word. is_some (token_of word)) words then Some (filter_map token_of words) else None

-- TOKEN ..
abbrev pub tokens_in_words : List (List ℕ) → Option (List ℤ)
tokens_in_words words = option_and_then kept_tokens (each_token_in_words words)

-- a node: a number below 2^32
abbrev pub node_of : List ℕ → Option ℕ
node_of text = number_below (2 ^ 32) text

-- NAME DC RACK
unfoldable pub register_command : List (List ℕ) → Option Command
register_command (name ∷ dc ∷ rack ∷ []) = if is_name name && is_name dc && is_name rack then Some (Register name dc rack) else None
register_command _ = None

-- NODE TOKEN ..
unfoldable pub node_and_tokens : List (List ℕ) → Option (ℕ × List ℤ)
node_and_tokens [] = None
node_and_tokens (node ∷ tokens) = option_and_then (λ n. option_map (λ ts. (n, ts)) (tokens_in_words tokens)) (node_of node)

-- NODE TOKEN .. of `unsafe-join`
unfoldable pub unsafe_join_command : List (List ℕ) → Option Command
unsafe_join_command words = option_map (λ (node, tokens). UnsafeJoin node tokens) (node_and_tokens words)

-- NODE TOKEN .. of `prepare-join`
unfoldable pub prepare_join_command : List (List ℕ) → Option Command
prepare_join_command words = option_map (λ (node, tokens). PrepareJoin node tokens) (node_and_tokens words)

-- NODE TOKEN
unfoldable pub prepare_move_command : List (List ℕ) → Option Command
prepare_move_command (node ∷ token ∷ []) = option_and_then (λ n. option_map (PrepareMove n) (token_of token)) (node_of node)
prepare_move_command _ = None

-- NODE GONE
unfoldable pub prepare_replace_command : List (List ℕ) → Option Command
prepare_replace_command (node ∷ gone ∷ []) = option_and_then (λ n. option_map (PrepareReplace n) (node_of gone)) (node_of node)
prepare_replace_command _ = None

-- NAME REPLICATION
unfoldable pub keyspace_command : List (List ℕ) → Option Command
keyspace_command [] = None
keyspace_command (name ∷ replication) = if is_name name then option_map (Keyspace name) (replication_of_words replication) else None

-- NAME
unfoldable pub drop_keyspace_command : List (List ℕ) → Option Command
drop_keyspace_command (name ∷ []) = if is_name name then Some (DropKeyspace name) else None
drop_keyspace_command _ = None

-- the command that a word makes of a node, if the node is all that it requires
abbrev pub command_on : List ℕ → ℕ → Option Command
command_on word node = option_map (λ row. row.1 node) (find (λ row. bytes_eq word row.0) node_commands)

-- NODE after such a word
unfoldable pub node_only_command : List ℕ → List (List ℕ) → Option Command
node_only_command word (node ∷ []) = option_and_then (command_on word) (node_of node)
node_only_command word _ = None

-- a command: its first word, and the words that this first word requires
unfoldable pub command_named : List ℕ → List (List ℕ) → Option Command
command_named word words =
    if bytes_eq word register_word then register_command words
    else if bytes_eq word unsafe_join_word then unsafe_join_command words
    else if bytes_eq word keyspace_word then keyspace_command words
    else if bytes_eq word drop_keyspace_word then drop_keyspace_command words
    else if bytes_eq word prepare_join_word then prepare_join_command words
    else if bytes_eq word prepare_move_word then prepare_move_command words
    else if bytes_eq word prepare_replace_word then prepare_replace_command words
    else node_only_command word words

-- COMMAND
unfoldable pub command_of : List (List ℕ) → Option Command
command_of [] = None
command_of (word ∷ words) = command_named word words

-- ID COMMAND
unfoldable pub commit_in : List (List ℕ) → Option ScriptLine
commit_in [] = None
commit_in (id ∷ command) = option_and_then (λ n. option_map (Commit n) (command_of command)) (number_below (2 ^ 64) id)

-- F
unfoldable pub follower_in : List (List ℕ) → Option ScriptLine
follower_in (name ∷ []) = if is_name name then Some (Follower name) else None
follower_in _ = None

-- F E of `deliver`
unfoldable pub deliver_in : List (List ℕ) → Option ScriptLine
deliver_in (name ∷ epoch ∷ []) = if is_name name then option_map (Deliver name) (number_below (2 ^ 64) epoch) else None
deliver_in _ = None

-- F E of `snapshot`
unfoldable pub snapshot_in : List (List ℕ) → Option ScriptLine
snapshot_in (name ∷ epoch ∷ []) = if is_name name then option_map (Snapshot name) (number_below (2 ^ 64) epoch) else None
snapshot_in _ = None

-- MAX: how many entries a reply may have at most, a number from 1 to 1,024
abbrev pub max_of : List ℕ → Option ℕ
max_of text = option_and_then (λ n. if nat_le 1 n then Some n else None) (number_below 1025 text)

-- F MAX
unfoldable pub ask_in : List (List ℕ) → Option ScriptLine
ask_in (name ∷ max ∷ []) = if is_name name then option_map (Ask name) (max_of max) else None
ask_in _ = None

-- F I
unfoldable pub give_in : List (List ℕ) → Option ScriptLine
give_in (name ∷ number ∷ []) = if is_name name then option_map (Give name) (number_below (2 ^ 64) number) else None
give_in _ = None

-- a target: @ and an epoch, or the name of a follower
unfoldable pub target_of : List ℕ → Option Target
target_of [] = None
target_of (c ∷ cs) =
    if c == 64 then option_map Epoch (number_below (2 ^ 64) cs)
    else if is_name (c ∷ cs) then Some (Named (c ∷ cs)) else None

-- TARGET KS
unfoldable pub place_line : List (List ℕ) → Option ScriptLine
place_line (target ∷ keyspace ∷ []) = if is_name keyspace then option_map (λ t. Place t keyspace) (target_of target) else None
place_line _ = None

-- TARGET
unfoldable pub nodes_line : List (List ℕ) → Option ScriptLine
nodes_line (target ∷ []) = option_map Nodes (target_of target)
nodes_line _ = None

-- TARGET KS TOKEN
unfoldable pub quorum_line : List (List ℕ) → Option ScriptLine
quorum_line (target ∷ keyspace ∷ token ∷ []) =
    if is_name keyspace then option_and_then (λ t. option_map (Quorum t keyspace) (token_of token)) (target_of target) else None
quorum_line _ = None

-- TARGET KS DC TOKEN
unfoldable pub local_line : List (List ℕ) → Option ScriptLine
local_line (target ∷ keyspace ∷ dc ∷ token ∷ []) =
    if is_name keyspace && is_name dc then option_and_then (λ t. option_map (Local t keyspace dc) (token_of token)) (target_of target) else None
local_line _ = None

-- a line: its first word, and the words that this first word requires
unfoldable pub line_of_words : List (List ℕ) → Option ScriptLine
line_of_words [] = None
line_of_words (word ∷ words) =
    if bytes_eq word (codes "commit") then commit_in words
    else if bytes_eq word (codes "follower") then follower_in words
    else if bytes_eq word (codes "deliver") then deliver_in words
    else if bytes_eq word (codes "snapshot") then snapshot_in words
    else if bytes_eq word (codes "ask") then ask_in words
    else if bytes_eq word (codes "give") then give_in words
    else if bytes_eq word (codes "place") then place_line words
    else if bytes_eq word (codes "nodes") then nodes_line words
    else if bytes_eq word (codes "quorum") then quorum_line words
    else if bytes_eq word (codes "local") then local_line words
    else None

-- the content of a line, if the line is in the grammar and has at most 16,384 bytes
unfoldable pub line_of : List ℕ → Option ScriptLine
line_of bytes = if nat_le (length bytes) 16384 then line_of_words (words_of bytes) else None

-- if a line commits a command that lists tokens, they are 1 to 256 and ascend. If it asks for a reply, this may have
-- 1 to 1,024 entries
abbrev pub IsInRange : ScriptLine → Type 0
IsInRange (Commit id command) = IsTrue (is_command command)
IsInRange (Ask name max) = (1 ≤ max) × (max ≤ 1024)
IsInRange _ = Unit {0}
