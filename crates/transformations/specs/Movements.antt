-- Movements, and the steps that they take (CEP-21's multi-step operations). Two rules are this project's own: a
-- replaced node has left, and a movement at MID is cancelled in two steps.
use Rattle.std.specs.Prelude.{ℕ, Bool, true, false, not, ◌&&◌, ◌||◌, if◌then◌else◌, ℤ, List, [], ◌∷◌, map, filter, find, Option, Some, None, ◌==◌}
use Rattle.std.specs.List.{list_any}
use Rattle.cluster_terms.specs.Ascending.{put_all}
use Rattle.cluster_terms.specs.NodeRow.{marked}
use Rattle.cluster_terms.specs.declared.node.NodeRow.{NodeRow}
use Rattle.cluster_terms.specs.declared.token.Pair.{Pair}
use Rattle.cluster_terms.specs.Pair.{tokens_of, without_pairs}
use Rattle.transformations.specs.Orders.{by_token}
use Rattle.transformations.specs.declared.image.Image.{Image}
use Rattle.transformations.specs.declared.sequence.Goal.{Goal}
use Rattle.transformations.specs.declared.sequence.Goal.TheVariants as goal
use Rattle.transformations.specs.declared.sequence.Kind.{Kind}
use Rattle.transformations.specs.declared.sequence.Kind.TheVariants.{Join, Move, Leave, Replace}
use Rattle.transformations.specs.declared.sequence.Phase.{Phase}
use Rattle.transformations.specs.declared.sequence.Phase.TheVariants.{Prepared, Started, Mid}
use Rattle.transformations.specs.declared.sequence.SeqRow.{SeqRow}

-- the pairs of a node and these tokens, in their order
abbrev pub pairs_of : ℕ → List ℤ → List Pair
pairs_of node tokens = map (λ t. record { token = t; node = node }) tokens

-- a prepared join: it takes no pair out, and puts in the node's tokens
abbrev pub join_of : ℕ → List ℤ → SeqRow
join_of node tokens = record { node = node; kind = Join; out_pairs = []; in_pairs = pairs_of node tokens; phase = Prepared }

-- the pairs of a node in a ring
abbrev pub owned : List Pair → ℕ → List Pair
owned ring n = filter (λ p. p.node == n) ring

-- a prepared move: it takes the node's pairs out, and puts in its only new token
abbrev pub move_of : List Pair → ℕ → ℤ → SeqRow
move_of ring node token = record { node = node; kind = Move; out_pairs = owned ring node; in_pairs = pairs_of node (token ∷ []); phase = Prepared }

-- a prepared leave: it takes the node's pairs out, and puts none in
abbrev pub leave_of : List Pair → ℕ → SeqRow
leave_of ring node = record { node = node; kind = Leave; out_pairs = owned ring node; in_pairs = []; phase = Prepared }

-- a prepared replace: it takes out the pairs of the node that is gone, and puts in the same tokens with the new node
abbrev pub replace_of : List Pair → ℕ → ℕ → SeqRow
replace_of ring node gone =
    let out = owned ring gone in
    record { node = node; kind = Replace; out_pairs = out; in_pairs = pairs_of node (tokens_of out); phase = Prepared }

-- the movement of a node
abbrev pub movement_of : Image → ℕ → Option SeqRow
movement_of image n = find (λ s. s.node == n) image.sequences

-- whether a node takes part in a movement: it is the movement's node, or the movement takes out a pair of the node
abbrev pub takes_part : ℕ → SeqRow → Bool
takes_part n s = (s.node == n) || list_any (λ p. p.node == n) s.out_pairs

-- the phase before a step with this goal
abbrev pub phase_before : Goal → Phase
phase_before goal.Start = Prepared
phase_before goal.Mid = Started
phase_before goal.Finish = Mid

-- whether two phases are the same
abbrev pub same_phase : Phase → Phase → Bool
same_phase Prepared Prepared = true
same_phase Started Started = true
same_phase Mid Mid = true
same_phase _ _ = false

-- whether two kinds are the same
abbrev pub same_kind : Kind → Kind → Bool
same_kind Join Join = true
same_kind Move Move = true
same_kind Leave Leave = true
same_kind Replace Replace = true
same_kind _ _ = false

-- whether a step is the next one of a movement
abbrev pub is_next_step : Goal → Kind → SeqRow → Bool
is_next_step goal kind s = same_kind s.kind kind && same_phase s.phase (phase_before goal)

-- a movement, brought to this phase if it is the movement of this node
abbrev pub at_phase : Phase → ℕ → SeqRow → SeqRow
at_phase phase n s = let changed : SeqRow = record s { phase = phase } in if s.node == n then changed else s

-- the movements of the other nodes
abbrev pub others : List SeqRow → ℕ → List SeqRow
others sequences n = filter (λ s. not (s.node == n)) sequences

-- the ring after a movement is done: without its outgoing pairs, and with its incoming pairs
abbrev pub ring_after : List Pair → SeqRow → List Pair
ring_after ring s = put_all by_token s.in_pairs (without_pairs ring s.out_pairs)

-- the node of the first pair
abbrev pub first_node : List Pair → Option ℕ
first_node [] = None
first_node (p ∷ ps) = Some p.node

-- the node that has left once a movement of this kind is done: the node of a leave, or of the first pair that a replace
-- takes out
abbrev pub leaver_by : Kind → SeqRow → Option ℕ
leaver_by Leave s = Some s.node
leaver_by Replace s = first_node s.out_pairs
leaver_by _ s = None

-- the node that has left once a movement is done, if any has
abbrev pub leaver : SeqRow → Option ℕ
leaver s = leaver_by s.kind s

-- the nodes; if a node is given, its row is marked as left
abbrev pub with_left : List NodeRow → Option ℕ → List NodeRow
with_left nodes None = nodes
with_left nodes (Some n) = map (marked n) nodes

-- the image once a movement is finished
abbrev pub finished : Image → Option SeqRow → Image
finished image None = image
finished image (Some s) =
    record image { nodes = with_left image.nodes (leaver s); tokens = ring_after image.tokens s; sequences = others image.sequences s.node }

-- the image once the movement of a node has taken a step; the epoch is as before
abbrev pub stepped : Image → Goal → ℕ → Image
stepped image goal.Start n = record image { sequences = map (at_phase Started n) image.sequences }
stepped image goal.Mid n = record image { sequences = map (at_phase Mid n) image.sequences }
stepped image goal.Finish n = finished image (movement_of image n)

-- the movements once the movement of a node is cancelled: from MID it goes back to STARTED, otherwise it ends
abbrev pub sequences_after_cancel : List SeqRow → ℕ → Option SeqRow → List SeqRow
sequences_after_cancel sequences n None = sequences
sequences_after_cancel sequences n (Some s) = if same_phase s.phase Mid then map (at_phase Started n) sequences else others sequences n

-- the image once the movement of a node is cancelled; the epoch is as before
abbrev pub cancelled : Image → ℕ → Image
cancelled image n = record image { sequences = sequences_after_cancel image.sequences n (movement_of image n) }
