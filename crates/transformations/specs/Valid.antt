-- Valid images: what holds of every image that a history leads to. `IsSound` and `IsValid` are records with one law to
-- the rules, `valid_images_break_no_rule`: proofs need named facts, and a refused image needs the first rule of a list.
-- `IsSound` is apart, as the ranges of a new movement are looked for before the image is known to be valid.
use Rattle.std.specs.Prelude.{◌≡◌, ℕ, ◌+◌, ◌<◌, ◌≤◌, Bool, true, false, not, ◌&&◌, List, [], ◌++◌, map, flat_map, length, Option, Some, None}
use Rattle.std.specs.List.{AllByRecursion, AllPairs, IsDistinct}
use Rattle.std.specs.List.Sorted.{IsStrictlyIncreasing, IsStrictlySortedBy}
use Rattle.std.specs.Ordering.{int_eq}
use Rattle.std.specs.Str.{bytes_eq}
use Rattle.cluster_terms.specs.NodeRow.{row_of}
use Rattle.cluster_terms.specs.Pair.{tokens_of}
use Rattle.cluster_terms.specs.declared.node.NodeRow.{NodeRow}
use Rattle.cluster_terms.specs.declared.token.Pair.{Pair}
use Rattle.transformations.specs.History.{most_epochs}
use Rattle.transformations.specs.Orders.{by_token, by_name, by_node}
use Rattle.transformations.specs.Ranges.{AreApart}
use Rattle.transformations.specs.Refusals.{most_nodes, most_tokens, most_keyspaces, other_rack}
use Rattle.transformations.specs.States.{owns_tokens, node_tokens}
use Rattle.transformations.specs.Movements.{owned, pairs_of, takes_part}
use Rattle.transformations.specs.declared.image.Image.{Image}
use Rattle.transformations.specs.declared.sequence.Kind.{Kind}
use Rattle.transformations.specs.declared.sequence.Kind.TheVariants.{Join, Move, Leave, Replace}
use Rattle.transformations.specs.declared.sequence.SeqRow.{SeqRow}

-- whether there is a row, and it isn't marked as left
abbrev pub stands : Option NodeRow → Bool
stands None = false
stands (Some row) = not row.left

-- whether a node is registered and hasn't left
abbrev pub is_standing : List NodeRow → ℕ → Bool
is_standing nodes n = stands (row_of nodes n)

-- the nodes of a cluster: at most 1,024; ids ascend from 1 on and are below the next id; no two nodes have the same
-- name
pub record AreNodes (nodes : List NodeRow) (next : ℕ) : Type 0 where
  pub few : length nodes ≤ most_nodes
  pub ascending : IsStrictlyIncreasing (map (λ row. row.id) nodes)
  pub within : AllByRecursion (λ row. (1 ≤ row.id) × (row.id < next)) nodes
  pub distinct : IsDistinct bytes_eq (map (λ row. row.name) nodes)

-- the ring: tokens ascend, their nodes are registered and haven't left, and none of them has more than 256
pub record IsOwned (image : Image) : Type 0 where
  pub ascending : IsStrictlySortedBy by_token image.tokens
  pub owners : AllByRecursion (λ p. is_standing image.nodes p.node ≡ true) image.tokens
  pub few : (n : ℕ) → length (node_tokens image n) ≤ 256

-- the pairs of a join: it takes no pair out and puts in 1 to 256 pairs of its node, which has no token
pub record IsJoin (image : Image) (s : SeqRow) : Type 0 where
  pub out : s.out_pairs ≡ []
  pub some : 1 ≤ length s.in_pairs
  pub few : length s.in_pairs ≤ 256
  pub own : AllByRecursion (λ p. p.node ≡ s.node) s.in_pairs
  pub bare : owns_tokens image s.node ≡ false

-- the pairs of a move: it takes out the node's only pair, and puts in one pair of the node
pub record IsMove (image : Image) (s : SeqRow) : Type 0 where
  pub out : s.out_pairs ≡ owned image.tokens s.node
  pub one : length s.out_pairs ≡ 1
  pub new : length s.in_pairs ≡ 1
  pub own : AllByRecursion (λ p. p.node ≡ s.node) s.in_pairs

-- the pairs of a leave: it takes out the node's pairs, at least one, and puts none in
pub record IsLeave (image : Image) (s : SeqRow) : Type 0 where
  pub out : s.out_pairs ≡ owned image.tokens s.node
  pub some : 1 ≤ length s.out_pairs
  pub in_none : s.in_pairs ≡ []

-- the pairs of a replace: it takes out all pairs of another node, at least one, and puts in the same tokens with its
-- own node, which has no token in the ring. If both are registered, they have the same datacenter and rack
pub record IsReplace (image : Image) (s : SeqRow) : Type 0 where
  pub gone : ℕ
  pub out : s.out_pairs ≡ owned image.tokens gone
  pub some : 1 ≤ length s.out_pairs
  pub same : s.in_pairs ≡ pairs_of s.node (tokens_of s.out_pairs)
  pub bare : owns_tokens image s.node ≡ false
  pub near : other_rack image s.node gone ≡ None

-- the pairs of a movement fit its kind
abbrev pub Fits : Kind → Image → SeqRow → Type 0
Fits Join image s = IsJoin image s
Fits Move image s = IsMove image s
Fits Leave image s = IsLeave image s
Fits Replace image s = IsReplace image s

-- a movement in flight: its node is registered and hasn't left, its pairs fit its kind, and those that it puts in
-- ascend
pub record IsMovement (image : Image) (s : SeqRow) : Type 0 where
  pub stands : is_standing image.nodes s.node ≡ true
  pub ascending : IsStrictlySortedBy by_token s.in_pairs
  pub fits : Fits s.kind image s

-- no node takes part in both movements
abbrev pub HaveNoNodeTwice : SeqRow → SeqRow → Type 0
HaveNoNodeTwice s q = (n : ℕ) → (takes_part n s && takes_part n q) ≡ false

-- the pairs that a movement brings at tokens of its own; a replace brings none
abbrev pub brought_by : Kind → List Pair → List Pair
brought_by Replace pairs = []
brought_by _ pairs = pairs

-- the pairs that movements bring at tokens of their own
abbrev pub brought : List SeqRow → List Pair
brought sequences = flat_map (λ s. brought_by s.kind s.in_pairs) sequences

-- a sound image: all that holds of a valid image, except that its movements may overlap
pub record IsSound (image : Image) : Type 0 where
  pub epochs : image.epoch ≤ most_epochs
  pub first_id : 1 ≤ image.next
  pub next_id : image.next ≤ image.epoch + 1
  pub nodes : AreNodes image.nodes image.next
  pub ring : IsOwned image
  pub few_keyspaces : length image.keyspaces ≤ most_keyspaces
  pub keyspaces : IsStrictlySortedBy by_name image.keyspaces
  pub movements : IsStrictlySortedBy by_node image.sequences
  pub fitting : AllByRecursion (IsMovement image) image.sequences
  pub once : AllPairs HaveNoNodeTwice image.sequences
  -- no token comes twice in the ring and in the pairs that movements bring at tokens of their own; together these pairs
  -- are at most 16,384
  pub fresh : IsDistinct int_eq (tokens_of (image.tokens ++ brought image.sequences))
  pub few_tokens : length (image.tokens ++ brought image.sequences) ≤ most_tokens

-- a valid image: it is sound, and no two of its movements overlap
pub record IsValid (image : Image) : Type 0 where
  pub sound : IsSound image
  pub apart : AreApart image
