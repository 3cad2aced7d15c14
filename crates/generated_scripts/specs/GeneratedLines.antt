-- The generated script, line by line: its draws, its opening and its rounds.
use Rattle.std.specs.Prelude.{ℕ, zero, suc, ◌+◌, ◌-◌, ◌*◌, ◌/◌, ◌%◌, ◌^◌, ℤ, pos, ◌-ℤ◌, List, [], ◌∷◌, ◌++◌, length, codes, decimal}
use Rattle.std.specs.Fmt.{signed_decimal}
use Rattle.script_session.specs.Machine.{SessionState, session_after, session_over}

-- ---- draws

-- the number that is drawn after another one
abbrev pub drawn : ℕ → ℕ
drawn s = (s * 1103515245 + 12345) % 2 ^ 31

-- the token of a drawn number
abbrev pub drawn_token : ℕ → ℤ
drawn_token s = pos (s * 8000000000) -ℤ pos 8589934592000000000

-- ---- lines

-- a commit with this id and this command
abbrev pub commit_line : ℕ → List ℕ → List ℕ
commit_line id command = codes "commit " ++ decimal id ++ codes " " ++ command

-- the command that registers a node, named by a letter and a number, in a datacenter and a rack
abbrev pub register_words : List ℕ → ℕ → ℕ → ℕ → List ℕ
register_words letter number dc rack =
    codes "register " ++ letter ++ decimal number ++ codes " dc" ++ decimal dc ++ codes " r" ++ decimal rack

-- the command with this word and this node
abbrev pub on_node : List ℕ → ℕ → List ℕ
on_node word node = word ++ codes " " ++ decimal node

-- the command with this word, this node and this token
abbrev pub with_token : List ℕ → ℕ → ℤ → List ℕ
with_token word node token = on_node word node ++ codes " " ++ signed_decimal token

-- follower f is handed the entry of an epoch
abbrev pub deliver_line : ℕ → List ℕ
deliver_line epoch = codes "deliver f " ++ decimal epoch

-- follower f is handed the entries of the `count` epochs after an epoch, from the last one down to the first
unfoldable pub delivers : ℕ → ℕ → List (List ℕ)
delivers epoch zero = []
delivers epoch (suc count) = deliver_line (epoch + suc count) ∷ delivers epoch count

-- ---- the opening

-- the lines of `count` numbers, from `number` on
abbrev pub each : (ℕ → List ℕ) → ℕ → ℕ → List (List ℕ)
each line number zero = []
each line number (suc count) = line number ∷ each line (number + 1) count

-- node i is registered
abbrev pub register_line : ℕ → List ℕ
register_line i = commit_line i (register_words (codes "n") i (2 - i % 2) ((i - 1) / 2 % 3 + 1))

-- the token with which node i joins
abbrev pub opening_token : ℕ → ℤ
opening_token i = pos ((i - 1) * 700000000000000000) -ℤ pos 8000000000000000000

-- node i joins with its token
abbrev pub join_line : ℕ → List ℕ
join_line i = commit_line (24 + i) (with_token (codes "unsafe-join") i (opening_token i))

-- the nodes 1 to `count` are registered
unfoldable pub register_lines : ℕ → List (List ℕ)
register_lines count = each register_line 1 count

-- the nodes 1 to `count` join
unfoldable pub join_lines : ℕ → List (List ℕ)
join_lines count = each join_line 1 count

-- two keyspaces and a follower are made
unfoldable pub keyspace_lines : List (List ℕ)
keyspace_lines =
    codes "commit 49 keyspace ks simple 3" ∷ codes "commit 50 keyspace kt topology dc1:2 dc2:2"
    ∷ codes "follower f" ∷ []

-- 24 nodes are registered and join, the keyspaces and the follower are made, and it is handed the 50 entries, from the
-- last one down to the first
unfoldable pub opening_lines : List (List ℕ)
opening_lines = register_lines 24 ++ join_lines 24 ++ keyspace_lines ++ delivers 0 50

-- ---- a round

-- the words of the commands by which a node joins, leaves and is removed, once its join is prepared
abbrev pub step_words : List (List ℕ)
step_words =
    codes "start-join" ∷ codes "mid-join" ∷ codes "finish-join" ∷ codes "prepare-leave" ∷ codes "start-leave"
    ∷ codes "mid-leave" ∷ codes "finish-leave" ∷ codes "unregister" ∷ []

-- the commits of these words, each for one node and then for the next one
unfoldable pub step_lines : ℕ → ℕ → List (List ℕ) → List (List ℕ)
step_lines id node [] = []
step_lines id node (word ∷ words) =
    commit_line id (on_node word node) ∷ commit_line (id + 1) (on_node word (node + 1)) ∷ step_lines (id + 2) node words

-- the commits of round j, whose tokens are drawn after `s`: the first has the id 31 + 20 j, and the nodes are 23 + 2 j
-- and 24 + 2 j
unfoldable pub round_commits : ℕ → ℕ → List (List ℕ)
round_commits s j =
    let id = 31 + 20 * j in
    let node = 23 + 2 * j in
    commit_line id (register_words (codes "a") j 1 1) ∷ commit_line (id + 1) (register_words (codes "b") j 2 2)
    ∷ commit_line (id + 2) (with_token (codes "prepare-join") node (drawn_token (drawn s)))
    ∷ commit_line (id + 3) (with_token (codes "prepare-join") (node + 1) (drawn_token (drawn (drawn s))))
    ∷ step_lines (id + 4) node step_words

-- the deliveries of the epochs that lines commit, from the last one down to the first
abbrev pub deliveries : SessionState → List (List ℕ) → List (List ℕ)
deliveries session lines =
    delivers (length session.log) (length (session_after session lines).log - length session.log)

-- round j: its commits, and the deliveries of the epochs that they commit
unfoldable pub round_lines : SessionState → ℕ → ℕ → List (List ℕ)
round_lines session s j = (let commits = round_commits s j in commits ++ deliveries session commits)

-- `count` rounds, from round j on. The script is computed by this session, and answered by another one
-- (`generation_of`). A round ends with one delivery for each epoch that it made
unfoldable pub rounds_lines : SessionState → ℕ → ℕ → ℕ → List (List ℕ)
rounds_lines session s j zero = []
rounds_lines session s j (suc count) =
    let lines = round_lines session s j in
    lines ++ rounds_lines (session_after session lines) (drawn (drawn s)) (j + 1) count

-- the script of `gen START N`: the opening, and N rounds
abbrev pub generated_lines : ℕ → ℕ → List (List ℕ)
generated_lines start rounds =
    opening_lines ++ rounds_lines (session_after (session_over []) opening_lines) (start % 2 ^ 31) 1 rounds
