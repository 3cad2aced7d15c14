-- What the words after the program's name ask for.
use Rattle.std.specs.Prelude.{ℕ, ◌^◌, Bool, true, false, ◌&&◌, ◌==◌, not, if◌then◌else◌, List, [], ◌∷◌, length, nat_le, nat_lt, codes, Option, Some, None, option_map, option_and_then}
use Rattle.std.specs.List.{list_all, slice_split}
use Rattle.std.specs.Str.{bytes_eq}
use Rattle.cluster_terms.specs.Name.{is_name}
use Rattle.script_lang.specs.Grammar.{node_of, number_below}

-- what a run is to do, with the names and the numbers in its words
pub data Request : Type 0 where
  Commit : Request
  CommitTo : (log cluster : List ℕ) → Request
  Replay : (files : List (List ℕ)) → Request
  Snapshot : (log : List ℕ) (epoch : ℕ) → Request
  Gen : (start rounds : ℕ) → Request
  Mend : (old new cluster : List ℕ) → Request
  Plan : (log : List ℕ) (node : ℕ) (keyspace : List ℕ) → Request
  Cms : (log from to : List ℕ) → Request

-- the name of a file isn't empty
abbrev pub is_file_name : List ℕ → Bool
is_file_name name = not (bytes_eq name [])

-- the name of a log file, and that of the cluster whose log it is
abbrev pub is_log : List ℕ → List ℕ → Bool
is_log log cluster = is_file_name log && is_name cluster

-- the names of 1 to 64 files
abbrev pub are_files : List (List ℕ) → Bool
are_files names = nat_le 1 (length names) && (nat_le (length names) 64 && list_all is_file_name names)

-- the nodes in some texts, if each text is a NODE
abbrev pub each_node : List (List ℕ) → Option (List ℕ)
each_node [] = Some []
each_node (text ∷ texts) = option_and_then (λ n. option_map (λ ns. n ∷ ns) (each_node texts)) (node_of text)

-- whether each node is below the next
abbrev pub nodes_ascend : List ℕ → Bool
nodes_ascend [] = true
nodes_ascend (n ∷ []) = true
nodes_ascend (n ∷ m ∷ ns) = nat_lt n m && nodes_ascend (m ∷ ns)

-- whether a list may have these nodes: there are 1 to 16, and they ascend
abbrev pub are_nodes : List ℕ → Bool
are_nodes ns = nat_le 1 (length ns) && (nat_le (length ns) 16 && nodes_ascend ns)

-- NODE,NODE ..: 1 to 16 nodes that ascend, with a comma between each two
abbrev pub node_list : List ℕ → Option (List ℕ)
node_list text =
    option_and_then (λ ns. if are_nodes ns then Some ns else None) (each_node (slice_split (λ byte. byte == 44) text))

-- no word, or LOG CLUSTER
abbrev pub commit_request : List (List ℕ) → Option Request
commit_request [] = Some Commit
commit_request (log ∷ cluster ∷ []) = if is_log log cluster then Some (CommitTo log cluster) else None
commit_request _ = None

-- FILE ..
abbrev pub replay_request : List (List ℕ) → Option Request
replay_request files = if are_files files then Some (Replay files) else None

-- LOG E, with an E below 2^64
abbrev pub snapshot_request : List (List ℕ) → Option Request
snapshot_request (log ∷ epoch ∷ []) = if is_file_name log then option_map (Snapshot log) (number_below (2 ^ 64) epoch) else None
snapshot_request _ = None

-- START N, with a START below 2^64 and an N up to 3,000
abbrev pub gen_request : List (List ℕ) → Option Request
gen_request (start ∷ rounds ∷ []) = option_and_then (λ s. option_map (Gen s) (number_below 3001 rounds)) (number_below (2 ^ 64) start)
gen_request _ = None

-- OLD NEW CLUSTER
abbrev pub mend_request : List (List ℕ) → Option Request
mend_request (old ∷ new ∷ cluster ∷ []) = if is_file_name old && is_log new cluster then Some (Mend old new cluster) else None
mend_request _ = None

-- LOG NODE KS, with a NODE below 2^32 and the name of a keyspace
abbrev pub plan_request : List (List ℕ) → Option Request
plan_request (log ∷ node ∷ keyspace ∷ []) =
    if is_file_name log && is_name keyspace then option_map (λ n. Plan log n keyspace) (node_of node) else None
plan_request _ = None

-- LOG FROM TO, with a FROM and a TO that list nodes
abbrev pub cms_request : List (List ℕ) → Option Request
cms_request (log ∷ from ∷ to ∷ []) =
    if is_file_name log then option_and_then (λ f. option_map (Cms log f) (node_list to)) (node_list from) else None
cms_request _ = None

-- the first word, and the words that it requires; other words name no command
unfoldable pub request_of : List (List ℕ) → Option Request
request_of [] = None
request_of (word ∷ words) =
    if bytes_eq word (codes "commit") then commit_request words
    else if bytes_eq word (codes "replay") then replay_request words
    else if bytes_eq word (codes "snapshot") then snapshot_request words
    else if bytes_eq word (codes "gen") then gen_request words
    else if bytes_eq word (codes "mend2") then mend_request words
    else if bytes_eq word (codes "plan") then plan_request words
    else if bytes_eq word (codes "cms") then cms_request words
    else None

-- ---- the words of a run on a disk

-- `on`, the path of a disk, which isn't empty, and other words: this path, and these words
abbrev pub durable_words : List (List ℕ) → Option (List ℕ × List (List ℕ))
durable_words (on ∷ disk ∷ words) = if bytes_eq on (codes "on") && is_file_name disk then Some (disk, words) else None
durable_words _ = None

-- ---- what a request names

-- whether a request may change a file
abbrev pub may_change : Option Request → Bool
may_change (Some (CommitTo log cluster)) = true
may_change (Some (Mend old new cluster)) = true
may_change _ = false

-- whether it names a file
abbrev pub names_file : Option Request → Bool
names_file (Some (CommitTo log cluster)) = true
names_file (Some (Replay files)) = true
names_file (Some (Snapshot log epoch)) = true
names_file (Some (Mend old new cluster)) = true
names_file (Some (Plan log node keyspace)) = true
names_file (Some (Cms log from to)) = true
names_file _ = false
