-- The texts of answers.
use Rattle.std.specs.Prelude.{ℕ, ℤ, List, [], ◌∷◌, ◌++◌, length, flat_map, Option, Some, None, codes, decimal}
use Rattle.std.specs.Fmt.{signed_decimal}
use Rattle.cluster_terms.specs.Quorum.{Sets, read_need, write_need}
use Rattle.cluster_terms.specs.Row.{rows_between, last_token}
use Rattle.cluster_terms.specs.declared.node.NodeRow.{NodeRow}
use Rattle.cluster_terms.specs.declared.replication.Replication.{Replication}
use Rattle.cluster_terms.specs.declared.row.TokenRange.{TokenRange}
use Rattle.cluster_terms.specs.declared.token.Pair.{Pair}
use Rattle.cluster_terms.specs.declared.token.RightEnd.{RightEnd}
use Rattle.cluster_terms.specs.declared.token.RightEnd.TheVariants.{At, Max}
use Rattle.range_placements.specs.declared.placement_row.PlacementRow.{PlacementRow}
use Rattle.transformations.specs.Rings.{reads_at, writes_at, cuts}
use Rattle.transformations.specs.States.{node_tokens, state_of_row}
use Rattle.transformations.specs.Words.{movement_word, phase_word}
use Rattle.transformations.specs.declared.image_rules.BadImage.{BadImage}
use Rattle.transformations.specs.declared.image.Image.{Image}
use Rattle.transformations.specs.declared.keyspace.KeyspaceRow.{KeyspaceRow}
use Rattle.transformations.specs.declared.refusal.Refusal.{Refusal}
use Rattle.transformations.specs.declared.refusal.Refusal.TheVariants.{NameTaken, NodesFull, NoNode, WrongState, InSequence, NoSequence, WrongStep, TokenTaken, NoTokens, TokensFull, NotOneToken, OtherRack, NotIdle, NoKeyspace, KeyspacesFull, TooFewNodes, Locked, IdReused, EpochsFull, KeyspaceLocked}
use Rattle.transformations.specs.declared.sequence.Kind.{Kind}
use Rattle.transformations.specs.declared.sequence.Phase.{Phase}
use Rattle.transformations.specs.declared.sequence.SeqRow.{SeqRow}
use Rattle.transformations.specs.declared.state.NodeState.{NodeState}
use Rattle.transformations.specs.declared.state.NodeState.TheVariants as state

-- a text and a line feed
abbrev pub line : List ℕ → List ℕ
line text = text ++ 10 ∷ []

-- the texts of the items, separated by commas, or a dash if there are no items
abbrev pub listed : {X : Type 0} → (X → List ℕ) → List X → List ℕ
listed text [] = codes "-"
listed text (x ∷ xs) = text x ++ flat_map (λ y. codes "," ++ text y) xs

-- LIST of node ids
abbrev pub list_text : List ℕ → List ℕ
list_text ns = listed decimal ns

-- LIST of tokens
abbrev pub tokens_text : List ℤ → List ℕ
tokens_text ts = listed signed_decimal ts

-- a pair: its token and its node
abbrev pub pair_text : Pair → List ℕ
pair_text p = signed_decimal p.token ++ codes "@" ++ decimal p.node

-- PAIRS
abbrev pub pairs_text : List Pair → List ℕ
pairs_text ps = listed pair_text ps

-- the word of a state
abbrev pub state_text : NodeState → List ℕ
state_text state.Left = codes "LEFT"
state_text state.Bootstrapping = codes "BOOTSTRAPPING"
state_text state.Moving = codes "MOVING"
state_text state.Leaving = codes "LEAVING"
state_text state.BootReplacing = codes "BOOT_REPLACING"
state_text state.Joined = codes "JOINED"
state_text state.Registered = codes "REGISTERED"

-- the kind and the phase of a movement
abbrev pub progress_text : Kind × Phase → List ℕ
progress_text p = movement_word p.0 ++ codes " " ++ phase_word p.1

-- the left end of a row
abbrev pub left_text : Option ℤ → List ℕ
left_text None = codes "min"
left_text (Some t) = signed_decimal t

-- the right end of a row
abbrev pub right_text : RightEnd → List ℕ
right_text (At t) = signed_decimal t
right_text Max = codes "max"

-- the node of a movement in flight, and the right end of the first row that its ranges share with another movement's
abbrev pub locked_text : ℕ × RightEnd → List ℕ
locked_text p = decimal p.0 ++ codes " " ++ right_text p.1

-- the rule that an image breaks, and its value
abbrev pub bad_image_text : BadImage → List ℕ
bad_image_text bad = decimal bad.rule ++ codes " " ++ signed_decimal bad.value

-- the text of a refusal
unfoldable pub refusal_text : Refusal → List ℕ
refusal_text (NameTaken n) = codes "NAME-TAKEN " ++ decimal n
refusal_text NodesFull = codes "NODES-FULL"
refusal_text NoNode = codes "NO-NODE"
refusal_text (WrongState s) = codes "NODE-STATE " ++ state_text s
refusal_text (InSequence n) = codes "IN-SEQUENCE " ++ decimal n
refusal_text NoSequence = codes "NO-SEQUENCE"
refusal_text (WrongStep k p) = codes "WRONG-STEP " ++ progress_text (k, p)
refusal_text (TokenTaken t) = codes "TOKEN-TAKEN " ++ signed_decimal t
refusal_text NoTokens = codes "NO-TOKENS"
refusal_text TokensFull = codes "TOKENS-FULL"
refusal_text (NotOneToken c) = codes "NOT-ONE-TOKEN " ++ decimal c
refusal_text (OtherRack dc rack) = codes "OTHER-RACK " ++ dc ++ codes " " ++ rack
refusal_text (NotIdle n) = codes "NOT-IDLE " ++ decimal n
refusal_text NoKeyspace = codes "NO-KEYSPACE"
refusal_text KeyspacesFull = codes "KEYSPACES-FULL"
refusal_text (TooFewNodes k) = codes "TOO-FEW-NODES " ++ k
refusal_text (Locked n end) = codes "LOCKED " ++ locked_text (n, end)
refusal_text (IdReused e) = codes "ID-REUSED " ++ decimal e
refusal_text EpochsFull = codes "EPOCHS-FULL"
refusal_text (KeyspaceLocked n o end) = codes "KEYSPACE-LOCKED " ++ decimal n ++ codes " " ++ locked_text (o, end)

-- the answer to a commit that is accepted as an epoch
abbrev pub ok_text : ℕ → List ℕ
ok_text epoch = line (codes "OK " ++ decimal epoch)

-- the answer to a line that is refused
abbrev pub no_text : List ℕ → List ℕ
no_text reason = line (codes "NO " ++ reason)

-- the answer to a line on a follower: a word, and the follower's epoch
abbrev pub epoch_text : List ℕ → ℕ → List ℕ
epoch_text word epoch = line (word ++ codes " " ++ decimal epoch)

-- the answer to a follower that asks for a reply: the reply's number, what it starts from, and how many entries it has
abbrev pub reply_text : ℕ → List ℕ → ℕ → ℕ → List ℕ
reply_text number word epoch count =
    line (codes "REPLY " ++ decimal number ++ codes " " ++ word ++ codes " " ++ decimal epoch ++ codes " entries " ++ decimal count)

-- a row with its read replicas and its write replicas
unfoldable pub placed_text : TokenRange → List ℕ → List ℕ → List ℕ
placed_text row reads writes =
    line (codes "(" ++ left_text row.left ++ codes "," ++ right_text row.right
    ++ codes "] read " ++ list_text reads ++ codes " write " ++ list_text writes)

-- a row, with the read replicas and the write replicas at its last token
abbrev pub placed_row_text : Image → Replication → TokenRange → List ℕ
placed_row_text image replication row =
    let x = last_token row.right in
    placed_text row (reads_at image replication x) (writes_at image replication x)

-- the head of the placements of a keyspace, with the number of rows
abbrev pub place_head : ℕ → List ℕ → ℕ → List ℕ
place_head epoch keyspace rows = line (codes "PLACE " ++ decimal epoch ++ codes " " ++ keyspace ++ codes " " ++ decimal rows)

-- the placements of a keyspace: the head, and the rows between the cuts
unfoldable pub place_text : Image → KeyspaceRow → List ℕ
place_text image keyspace =
    let rows = rows_between (cuts image) in
    place_head image.epoch keyspace.name (length rows) ++ flat_map (placed_row_text image keyspace.replication) rows

-- a row of a placement map that begins after this token, or with the least token
abbrev pub map_row_text : Option ℤ → PlacementRow → List ℕ
map_row_text left row = placed_text (record { left = left; right = row.right }) row.reads row.writes

-- the rows of a placement map from this end on: a row begins where the row before it ends
abbrev pub map_rows_text : Option ℤ → List PlacementRow → List ℕ
map_rows_text left [] = []
map_rows_text left (row ∷ rows) = map_row_text left row ++ map_rows_text (Some (last_token row.right)) rows

-- the placements of a keyspace by its placement map: the head and the rows
abbrev pub map_text : ℕ → List ℕ → List PlacementRow → List ℕ
map_text epoch keyspace rows = place_head epoch keyspace (length rows) ++ map_rows_text None rows

-- the answer to a quorum query: its word, the epoch, how many replicas a read needs, the read replicas, and the same
-- for writes
unfoldable pub sets_text : List ℕ → ℕ → ℕ × List ℕ → ℕ × List ℕ → List ℕ
sets_text word epoch reads writes =
    line (word ++ codes " " ++ decimal epoch ++ codes " read " ++ decimal reads.0 ++ codes " of " ++ list_text reads.1
    ++ codes " write " ++ decimal writes.0 ++ codes " of " ++ list_text writes.1)

-- the answer to a quorum query with these sets
abbrev pub quorum_text : List ℕ → ℕ → Sets → List ℕ
quorum_text word epoch s = sets_text word epoch (read_need s, s.reads) (write_need s, s.writes)

-- a node: its id, its name, its datacenter and its rack
abbrev pub named_text : NodeRow → List ℕ
named_text row = decimal row.id ++ codes " " ++ row.name ++ codes " " ++ row.dc ++ codes " " ++ row.rack

-- the line of a node: the same, with its state and its tokens
unfoldable pub node_text : Image → NodeRow → List ℕ
node_text image row =
    line (named_text row ++ codes " " ++ state_text (state_of_row image row) ++ codes " " ++ tokens_text (node_tokens image row.id))

-- a movement in flight
unfoldable pub sequence_text : SeqRow → List ℕ
sequence_text s =
    line (codes "SEQ " ++ decimal s.node ++ codes " " ++ movement_word s.kind ++ codes " " ++ phase_word s.phase
    ++ codes " out " ++ pairs_text s.out_pairs ++ codes " in " ++ pairs_text s.in_pairs)

-- the head of the nodes of a cluster, with the number of nodes and the number of movements
abbrev pub nodes_head : Image → List ℕ
nodes_head image =
    line (codes "NODES " ++ decimal image.epoch ++ codes " " ++ decimal (length image.nodes) ++ codes " " ++ decimal (length image.sequences))

-- the nodes of a cluster: the head, the nodes, and the movements
unfoldable pub nodes_text : Image → List ℕ
nodes_text image = nodes_head image ++ flat_map (node_text image) image.nodes ++ flat_map sequence_text image.sequences
