-- The states of nodes (Cassandra's NodeState, derived from the image).
use Rattle.std.specs.Prelude.{ℕ, Bool, ◌&&◌, if◌then◌else◌, ℤ, List, find, Option, Some, None, option_map, ◌==◌}
use Rattle.std.specs.List.{list_any}
use Rattle.cluster_terms.specs.NodeRow.{row_of}
use Rattle.cluster_terms.specs.Pair.{tokens_of}
use Rattle.cluster_terms.specs.declared.node.NodeRow.{NodeRow}
use Rattle.transformations.specs.Rings.{has_started}
use Rattle.transformations.specs.Movements.{owned}
use Rattle.transformations.specs.declared.image.Image.{Image}
use Rattle.transformations.specs.declared.sequence.Kind.{Kind}
use Rattle.transformations.specs.declared.sequence.Kind.TheVariants as kind
use Rattle.transformations.specs.declared.sequence.SeqRow.{SeqRow}
use Rattle.transformations.specs.declared.state.NodeState.{NodeState}
use Rattle.transformations.specs.declared.state.NodeState.TheVariants.{Left, Bootstrapping, Moving, Leaving, BootReplacing, Joined, Registered}

-- the tokens of a node in the ring, in the order of the ring
abbrev pub node_tokens : Image → ℕ → List ℤ
node_tokens image n = tokens_of (owned image.tokens n)

-- whether a node has a token in the ring
abbrev pub owns_tokens : Image → ℕ → Bool
owns_tokens image n = list_any (λ p. p.node == n) image.tokens

-- the state of a node whose movement of this kind has started
abbrev pub state_in : Kind → NodeState
state_in kind.Join = Bootstrapping
state_in kind.Move = Moving
state_in kind.Leave = Leaving
state_in kind.Replace = BootReplacing

-- the movement of a node, if it has started
abbrev pub started_of : Image → ℕ → Option SeqRow
started_of image n = find (λ s. (s.node == n) && has_started s.phase) image.sequences

-- the state of a node that hasn't left, by its movement, if it has started
abbrev pub state_by : Image → ℕ → Option SeqRow → NodeState
state_by image n (Some s) = state_in s.kind
state_by image n None = if owns_tokens image n then Joined else Registered

-- the state of the node of a row
unfoldable pub state_of_row : Image → NodeRow → NodeState
state_of_row image row = if row.left then Left else state_by image row.id (started_of image row.id)

-- the state of a node, if it is registered
abbrev pub node_state : Image → ℕ → Option NodeState
node_state image n = option_map (state_of_row image) (row_of image.nodes n)
