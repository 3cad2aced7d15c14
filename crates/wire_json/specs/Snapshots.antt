-- The image in a JSON value.
use Rattle.std.specs.Prelude.{ℕ, if◌then◌else◌, List, [], ◌∷◌, find, Option, Some, None, option_and_then, codes, ⊤}
use Rattle.std.specs.Str.{bytes_eq}
use Rattle.cluster_terms.specs.declared.node.NodeRow.{NodeRow}
use Rattle.cluster_terms.specs.declared.token.Pair.{Pair}
use Rattle.serde_json.specs.Data.{Data, Items, no_items, item}
use Rattle.serde_json.specs.Find.{get, as_array}
use Rattle.transformations.specs.Words.{movement_word, phase_word}
use Rattle.transformations.specs.declared.image.Image.{Image}
use Rattle.transformations.specs.declared.keyspace.KeyspaceRow.{KeyspaceRow}
use Rattle.transformations.specs.declared.sequence.Kind.{Kind}
use Rattle.transformations.specs.declared.sequence.Kind.TheVariants.{Join, Move, Leave, Replace}
use Rattle.transformations.specs.declared.sequence.Phase.{Phase}
use Rattle.transformations.specs.declared.sequence.Phase.TheVariants.{Prepared, Started, Mid}
use Rattle.transformations.specs.declared.sequence.SeqRow.{SeqRow}
use Rattle.wire_json.specs.Values.{◌>>=◌, has_keys, each_at, flag_at, name_at, node_at, node_in, number_at, replication_at, text_at, token_of}

-- a line of `do` that requires an object with exactly these keys, and gives nothing of it
abbrev pub having : List (List ℕ) → Data → Option ⊤
having keys value = if has_keys keys value then Some tt else None

-- the pair in two items. `do` takes its lines in order: if one gives no value, the whole gives None
abbrev pub pair_of : Data → Data → Option Pair
pair_of token node = do
  t ← token_of token
  n ← node_in node
  Some (record { token = t; node = n })

-- the pair in a list of two items
abbrev pub pair_by : Items → Option Pair
pair_by (item token (item node no_items)) = pair_of token node
pair_by _ = None

-- [token,node]
abbrev pub pair_in : Data → Option Pair
pair_in value = option_and_then pair_by (as_array value)

-- the keys of a registered node
abbrev pub node_row_keys : List (List ℕ)
node_row_keys = codes "dc" ∷ codes "id" ∷ codes "left" ∷ codes "name" ∷ codes "rack" ∷ []

-- a registered node
unfoldable pub node_row_in : Data → Option NodeRow
node_row_in value = do
  keys ← having node_row_keys value
  id ← node_at (codes "id") value
  name ← name_at (codes "name") value
  dc ← name_at (codes "dc") value
  rack ← name_at (codes "rack") value
  left ← flag_at (codes "left") value
  Some (record { id = id; name = name; dc = dc; rack = rack; left = left })

-- the keys of a keyspace
abbrev pub keyspace_row_keys : List (List ℕ)
keyspace_row_keys = codes "name" ∷ codes "replication" ∷ []

-- a keyspace and its replication
unfoldable pub keyspace_row_in : Data → Option KeyspaceRow
keyspace_row_in value = do
  keys ← having keyspace_row_keys value
  name ← name_at (codes "name") value
  replication ← replication_at (codes "replication") value
  Some (record { name = name; replication = replication })

-- the kind of a movement with this word
abbrev pub kind_named : List ℕ → Option Kind
kind_named word = find (λ kind. bytes_eq word (movement_word kind)) (Join ∷ Move ∷ Leave ∷ Replace ∷ [])

-- the kind of a movement at a key
abbrev pub kind_at : List ℕ → Data → Option Kind
kind_at key value = option_and_then kind_named (text_at key value)

-- the phase with this word
abbrev pub phase_named : List ℕ → Option Phase
phase_named word = find (λ phase. bytes_eq word (phase_word phase)) (Prepared ∷ Started ∷ Mid ∷ [])

-- the phase at a key
abbrev pub phase_at : List ℕ → Data → Option Phase
phase_at key value = option_and_then phase_named (text_at key value)

-- the keys of a movement in flight
abbrev pub movement_keys : List (List ℕ)
movement_keys = codes "in" ∷ codes "kind" ∷ codes "node" ∷ codes "out" ∷ codes "phase" ∷ []

-- a movement in flight
unfoldable pub movement_in : Data → Option SeqRow
movement_in value = do
  keys ← having movement_keys value
  node ← node_at (codes "node") value
  kind ← kind_at (codes "kind") value
  out_pairs ← each_at pair_in (codes "out") value
  in_pairs ← each_at pair_in (codes "in") value
  phase ← phase_at (codes "phase") value
  Some (record { node = node; kind = kind; out_pairs = out_pairs; in_pairs = in_pairs; phase = phase })

-- the keys of an image
abbrev pub image_keys : List (List ℕ)
image_keys = codes "epoch" ∷ codes "keyspaces" ∷ codes "next" ∷ codes "nodes" ∷ codes "sequences" ∷ codes "tokens" ∷ []

-- an image. The next id is a number below 2^32, as a node is, and the lists are of any length
unfoldable pub image_in : Data → Option Image
image_in value = do
  keys ← having image_keys value
  epoch ← number_at (codes "epoch") value
  next ← node_at (codes "next") value
  nodes ← each_at node_row_in (codes "nodes") value
  tokens ← each_at pair_in (codes "tokens") value
  keyspaces ← each_at keyspace_row_in (codes "keyspaces") value
  sequences ← each_at movement_in (codes "sequences") value
  Some (record { epoch = epoch; next = next; nodes = nodes; tokens = tokens; keyspaces = keyspaces; sequences = sequences })

-- the key of a snapshot line
abbrev pub snapshot_keys : List (List ℕ)
snapshot_keys = codes "snapshot" ∷ []

-- the image at a key
abbrev pub snapshot_at : List ℕ → Data → Option Image
snapshot_at key value = option_and_then image_in (get key value)
