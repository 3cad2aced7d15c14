-- When a command is refused. The refusals, their order and the limits are by rules of this project.
use Rattle.std.specs.Prelude.{◌≡◌, ℕ, ◌<◌, Bool, true, false, ◌&&◌, not, if◌then◌else◌, ℤ, List, [], ◌∷◌, ◌++◌, map, length, Option, Some, None, is_some, option_map, option_and_then, find, nat_le, nat_lt, ◌==◌}
use Rattle.std.specs.List.{All, AllPairs, list_any}
use Rattle.std.specs.Ordering.{int_eq}
use Rattle.std.specs.Set.{distinct_count}
use Rattle.std.specs.Str.{bytes_eq}
use Rattle.cluster_terms.specs.Arc.{IsToken}
use Rattle.cluster_terms.specs.Ascending.{put}
use Rattle.cluster_terms.specs.Group.{Group, nodes_of, node_count}
use Rattle.cluster_terms.specs.NodeRow.{row_of}
use Rattle.cluster_terms.specs.Replication.{groups_of}
use Rattle.cluster_terms.specs.declared.node.NodeRow.{NodeRow}
use Rattle.cluster_terms.specs.declared.replication.Replication.{Replication}
use Rattle.cluster_terms.specs.declared.token.Pair.{Pair}
use Rattle.cluster_terms.specs.declared.token.RightEnd.{RightEnd}
use Rattle.transformations.specs.Orders.{by_name, by_node}
use Rattle.transformations.specs.Ranges.{IsFirstShared, IsLockedBy, first_shared, in_both}
use Rattle.transformations.specs.Rings.{widest}
use Rattle.transformations.specs.States.{owns_tokens, node_state, node_tokens}
use Rattle.transformations.specs.Movements.{join_of, move_of, leave_of, replace_of, movement_of, takes_part, is_next_step, others, same_kind}
use Rattle.transformations.specs.declared.command.Command.{Command}
use Rattle.transformations.specs.declared.command.Command.TheVariants.{Register, Unregister, UnsafeJoin, Keyspace, DropKeyspace, PrepareJoin, PrepareMove, PrepareLeave, PrepareReplace, Step, Cancel}
use Rattle.transformations.specs.declared.image.Image.{Image}
use Rattle.transformations.specs.declared.keyspace.KeyspaceRow.{KeyspaceRow}
use Rattle.transformations.specs.declared.refusal.Refusal.{Refusal}
use Rattle.transformations.specs.declared.refusal.Refusal.TheVariants.{NameTaken, NodesFull, NoNode, WrongState, InSequence, NoSequence, WrongStep, TokenTaken, NoTokens, TokensFull, NotOneToken, OtherRack, NotIdle, NoKeyspace, KeyspacesFull, TooFewNodes, Locked, KeyspaceLocked}
use Rattle.transformations.specs.declared.sequence.Goal.{Goal}
use Rattle.transformations.specs.declared.sequence.Kind.{Kind}
use Rattle.transformations.specs.declared.sequence.Kind.TheVariants.{Leave}
use Rattle.transformations.specs.declared.sequence.SeqRow.{SeqRow}
use Rattle.transformations.specs.declared.state.NodeState.{NodeState}
use Rattle.transformations.specs.declared.state.NodeState.TheVariants as state

-- the greatest number of nodes in a cluster
abbrev pub most_nodes : ℕ
most_nodes = 1024

-- the greatest number of tokens in a cluster
abbrev pub most_tokens : ℕ
most_tokens = 16384

-- the greatest number of keyspaces in a cluster
abbrev pub most_keyspaces : ℕ
most_keyspaces = 64

-- the refusal if the test is true
abbrev pub refused_if : Bool → Refusal → Option Refusal
refused_if test refusal = if test then Some refusal else None

-- a node has the name
abbrev pub name_taken : Image → List ℕ → Option Refusal
name_taken image name = option_map (λ row. NameTaken row.id) (find (λ row. bytes_eq row.name name) image.nodes)

-- the greatest number of nodes is registered
abbrev pub nodes_full : Image → Option Refusal
nodes_full image = refused_if (nat_le most_nodes (length image.nodes)) NodesFull

-- whether a node is registered
abbrev pub is_registered : Image → ℕ → Bool
is_registered image n = is_some (row_of image.nodes n)

-- the node isn't registered
abbrev pub no_node : Image → ℕ → Option Refusal
no_node image n = refused_if (not (is_registered image n)) NoNode

-- a state isn't allowed; it is shown
abbrev pub unless_allowed : (NodeState → Bool) → NodeState → Option Refusal
unless_allowed allowed s = refused_if (not (allowed s)) (WrongState s)

-- the node is registered, and its state isn't allowed; the state is shown
abbrev pub wrong_state : (NodeState → Bool) → Image → ℕ → Option Refusal
wrong_state allowed image n = option_and_then (unless_allowed allowed) (node_state image n)

-- whether a node in this state may be given tokens
abbrev pub may_join : NodeState → Bool
may_join state.Registered = true
may_join _ = false

-- whether a node in this state may move or leave
abbrev pub may_move_or_leave : NodeState → Bool
may_move_or_leave state.Joined = true
may_move_or_leave _ = false

-- whether a node in this state may be removed
abbrev pub may_be_removed : NodeState → Bool
may_be_removed state.Registered = true
may_be_removed state.Left = true
may_be_removed _ = false

-- the node takes part in a movement, whose node is shown
abbrev pub in_sequence : Image → ℕ → Option Refusal
in_sequence image n = option_map (λ s. InSequence s.node) (find (takes_part n) image.sequences)

-- the node has no movement
abbrev pub no_sequence : Image → ℕ → Option Refusal
no_sequence image n = refused_if (not (is_some (movement_of image n))) NoSequence

-- the step isn't the next one of a movement, whose own kind and phase are shown
abbrev pub unless_next : Goal → Kind → SeqRow → Option Refusal
unless_next goal kind s = refused_if (not (is_next_step goal kind s)) (WrongStep s.kind s.phase)

-- the node has a movement, and the step isn't its next one; the movement's own kind and phase are shown
abbrev pub wrong_step : Goal → Kind → Image → ℕ → Option Refusal
wrong_step goal kind image n = option_and_then (unless_next goal kind) (movement_of image n)

-- a movement is in flight; they ascend by node, so the first one has the least
abbrev pub not_idle : List SeqRow → Option Refusal
not_idle [] = None
not_idle (s ∷ later) = Some (NotIdle s.node)

-- whether a token is in the ring, or a movement in flight puts it in
abbrev pub is_taken : Image → ℤ → Bool
is_taken image t = list_any (λ p. int_eq p.token t) (widest image)

-- one of these tokens is taken; the first such token is shown
abbrev pub token_taken : Image → List ℤ → Option Refusal
token_taken image tokens = option_map TokenTaken (find (is_taken image) tokens)

-- the node that is to be replaced has no token
abbrev pub no_tokens : Image → ℕ → Option Refusal
no_tokens image gone = refused_if (not (owns_tokens image gone)) NoTokens

-- this number of tokens isn't 1; it is shown
abbrev pub unless_one : ℕ → Option Refusal
unless_one count = refused_if (not (count == 1)) (NotOneToken count)

-- the node doesn't have exactly one token; how many it has is shown
abbrev pub not_one_token : Image → ℕ → Option Refusal
not_one_token image n = unless_one (length (node_tokens image n))

-- whether two nodes stand in the same datacenter and rack
abbrev pub same_place : NodeRow → NodeRow → Bool
same_place row gone = bytes_eq row.dc gone.dc && bytes_eq row.rack gone.rack

-- a node stands in another datacenter or rack than the one that is to be replaced, whose datacenter and rack are shown
abbrev pub unless_near : NodeRow → NodeRow → Option Refusal
unless_near gone row = refused_if (not (same_place row gone)) (OtherRack gone.dc gone.rack)

-- both nodes are registered, and the one that is to be replaced stands in another datacenter or rack, which are shown
abbrev pub other_rack : Image → ℕ → ℕ → Option Refusal
other_rack image n gone =
    option_and_then (λ left. option_and_then (unless_near left) (row_of image.nodes n)) (row_of image.nodes gone)

-- whether a group has the node, and has no more nodes with tokens than it is to have replicas
abbrev pub is_short : Image → ℕ → Group → Bool
is_short image n g = is_some (g.rack_of n) && nat_le (node_count g (nodes_of image.tokens)) g.rf

-- whether a replication has such a group for the node
abbrev pub is_too_few : Image → ℕ → Replication → Bool
is_too_few image n replication = list_any (is_short image n) (groups_of image.nodes replication)

-- a keyspace has such a group for the node; the first such keyspace is shown
abbrev pub too_few_nodes : Image → ℕ → Option Refusal
too_few_nodes image n = option_map (λ k. TooFewNodes k.name) (find (λ k. is_too_few image n k.replication) image.keyspaces)

-- whether a movement is a leave, and the replication has such a group for its node
abbrev pub is_left_short : Image → Replication → SeqRow → Bool
is_left_short image replication s = same_kind s.kind Leave && is_too_few image s.node replication

-- the keyspace that is to be set has such a group for the node of a leave in flight; the keyspace is shown
abbrev pub too_few_left : Image → KeyspaceRow → Option Refusal
too_few_left image k = refused_if (list_any (is_left_short image k.replication) image.sequences) (TooFewNodes k.name)

-- how many different tokens there are in the ring, among those that movements put in, and among these
abbrev pub tokens_with : Image → List ℤ → ℕ
tokens_with image tokens = distinct_count int_eq (map (λ p. p.token) (widest image) ++ tokens)

-- with these tokens there would be too many
abbrev pub tokens_full : Image → List ℤ → Option Refusal
tokens_full image tokens = refused_if (nat_lt most_tokens (tokens_with image tokens)) TokensFull

-- whether a keyspace has the name
abbrev pub has_keyspace : Image → List ℕ → Bool
has_keyspace image name = list_any (λ row. bytes_eq row.name name) image.keyspaces

-- no keyspace has the name
abbrev pub no_keyspace : Image → List ℕ → Option Refusal
no_keyspace image name = refused_if (not (has_keyspace image name)) NoKeyspace

-- there is the greatest number of keyspaces, and none of them has the name
abbrev pub keyspaces_full : Image → List ℕ → Option Refusal
keyspaces_full image name = refused_if (nat_le most_keyspaces (length image.keyspaces) && not (has_keyspace image name)) KeyspacesFull

-- the first refusal of a list
abbrev pub first_of : List (Option Refusal) → Option Refusal
first_of [] = None
first_of (Some refusal ∷ later) = Some refusal
first_of (None ∷ later) = first_of later

-- the image with a movement, put among the others in the order of nodes
abbrev pub with_movement : Image → SeqRow → Image
with_movement image s = record image { sequences = put by_node s image.sequences }

-- a new movement overlaps this other one, in the image that has both. The node of the other one is shown, and the right
-- end of the first row that is in the ranges of both
abbrev pub locked_by : Image → SeqRow → SeqRow → Option Refusal
locked_by image s q = option_map (Locked q.node) (first_shared image s q)

-- a new movement overlaps a movement of another node, in the image that has both; the first such movement is shown
unfoldable pub locked : Image → SeqRow → Option Refusal
locked image s = first_of (map (locked_by image s) (others image.sequences s.node))

-- the row of a keyspace
abbrev pub keyspace_row : List ℕ → Replication → KeyspaceRow
keyspace_row name replication = record { name = name; replication = replication }

-- the image with a keyspace set: put in the order of names, in the place of one with the same name
abbrev pub with_keyspace : Image → KeyspaceRow → Image
with_keyspace image k = record image { keyspaces = put by_name k image.keyspaces }

-- the image with this keyspace and no other
abbrev pub alone : Image → KeyspaceRow → Image
alone image k = record image { keyspaces = k ∷ [] }

-- two movements overlap; their nodes are shown, and the right end of the first row that is in the ranges of both
abbrev pub overlap_of : Image → SeqRow → SeqRow → Option Refusal
overlap_of image s q = option_map (KeyspaceLocked s.node q.node) (first_shared image s q)

-- the first of these movements that overlaps a later one is shown, with the first later one that it overlaps
abbrev pub first_overlap : Image → List SeqRow → Option Refusal
first_overlap image [] = None
first_overlap image (s ∷ later) = first_of (first_of (map (overlap_of image s) later) ∷ first_overlap image later ∷ [])

-- movements would overlap if this keyspace were set: under any keyspace of the image that has it. In an image whose
-- movements are apart, only the new keyspace can show an overlap
unfoldable pub keyspace_locked : Image → KeyspaceRow → Option Refusal
keyspace_locked image k = first_overlap (with_keyspace image k) image.sequences

-- the first refusal of each command, apart from LOCKED and KEYSPACE-LOCKED, in the order of its refusals; a command's
-- tokens ascend
unfoldable pub early_refusal_of : Image → Command → Option Refusal
early_refusal_of image (Register name dc rack) = first_of (name_taken image name ∷ nodes_full image ∷ [])
early_refusal_of image (Unregister node) =
    first_of (no_node image node ∷ in_sequence image node ∷ wrong_state may_be_removed image node ∷ [])
early_refusal_of image (UnsafeJoin node tokens) =
    first_of (no_node image node ∷ in_sequence image node ∷ wrong_state may_join image node ∷ not_idle image.sequences
    ∷ token_taken image tokens ∷ tokens_full image tokens ∷ [])
early_refusal_of image (Keyspace name replication) =
    first_of (keyspaces_full image name ∷ too_few_left image (keyspace_row name replication) ∷ [])
early_refusal_of image (DropKeyspace name) = no_keyspace image name
early_refusal_of image (PrepareJoin node tokens) =
    first_of (no_node image node ∷ in_sequence image node ∷ wrong_state may_join image node
    ∷ token_taken image tokens ∷ tokens_full image tokens ∷ [])
early_refusal_of image (PrepareMove node token) =
    first_of (no_node image node ∷ in_sequence image node ∷ wrong_state may_move_or_leave image node ∷ not_one_token image node
    ∷ token_taken image (token ∷ []) ∷ tokens_full image (token ∷ []) ∷ [])
early_refusal_of image (PrepareLeave node) =
    first_of (no_node image node ∷ in_sequence image node ∷ wrong_state may_move_or_leave image node ∷ too_few_nodes image node ∷ [])
early_refusal_of image (PrepareReplace node gone) =
    first_of (no_node image node ∷ no_node image gone ∷ in_sequence image node ∷ in_sequence image gone
    ∷ wrong_state may_join image node ∷ no_tokens image gone ∷ other_rack image node gone ∷ [])
early_refusal_of image (Cancel node) = first_of (no_node image node ∷ no_sequence image node ∷ [])
early_refusal_of image (Step goal kind node) =
    first_of (no_node image node ∷ no_sequence image node ∷ wrong_step goal kind image node ∷ [])

-- the movement that a command prepares
abbrev pub prepared_by : List Pair → Command → Option SeqRow
prepared_by ring (PrepareJoin node tokens) = Some (join_of node tokens)
prepared_by ring (PrepareMove node token) = Some (move_of ring node token)
prepared_by ring (PrepareLeave node) = Some (leave_of ring node)
prepared_by ring (PrepareReplace node gone) = Some (replace_of ring node gone)
prepared_by ring _ = None

-- the ranges of the movement that a command prepares are locked, in the image that has this movement
abbrev pub ranges_locked : Image → Command → Option Refusal
ranges_locked image command = option_and_then (λ s. locked (with_movement image s) s) (prepared_by image.tokens command)

-- with the keyspace that a command sets, movements would overlap
abbrev pub locks_overlap : Image → Command → Option Refusal
locks_overlap image (Keyspace name replication) = keyspace_locked image (keyspace_row name replication)
locks_overlap image _ = None

-- the first refusal of a command; LOCKED and KEYSPACE-LOCKED are the last
unfoldable pub refusal_of : Image → Command → Option Refusal
refusal_of image command = first_of (early_refusal_of image command ∷ ranges_locked image command ∷ locks_overlap image command ∷ [])

-- LOCKED shows this: the movement that the command prepares is locked by the movement of node n, in the image that has
-- both
pub record IsLockedOf (image : Image) (command : Command) (n : ℕ) (right : RightEnd) : Type 0 where
  pub movement : SeqRow
  pub prepared : prepared_by image.tokens command ≡ Some movement
  pub shown : IsLockedBy (with_movement image movement) movement n right

-- KEYSPACE-LOCKED shows this. With the keyspace so set, the movements of nodes n and o overlap, and the first row in
-- the ranges of both under its replication ends at `right`. No movement of a node below n overlaps that of a greater
-- node, and that of n overlaps none of a node between n and o
pub record IsKeyspaceLocked (image : Image) (k : KeyspaceRow) (n o : ℕ) (right : RightEnd) : Type 0 where
  pub one : SeqRow
  pub other : SeqRow
  pub first : movement_of image n ≡ Some one
  pub second : movement_of image o ≡ Some other
  pub greater : n < o
  pub shared : IsFirstShared (alone image k) one other right
  pub least : (x : ℤ) → IsToken x → AllPairs (λ s q. s.node < n → in_both (with_keyspace image k) s q x ≡ false) image.sequences
  pub next : (x : ℤ) → IsToken x → All (λ q. n < q.node → q.node < o → in_both (with_keyspace image k) one q x ≡ false) image.sequences
