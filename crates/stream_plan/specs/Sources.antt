-- The nodes from which a movement streams: the nodes that it adds to the replicas of a token take the places of those
-- that it takes away.
use Rattle.std.specs.Prelude.{ℕ, Bool, false, if◌then◌else◌, ℤ, List, [], ◌∷◌, filter, Option, Some, None, is_some, nat_eq}
use Rattle.std.specs.Set.{is_member}
use Rattle.cluster_terms.specs.Group.{Group}
use Rattle.cluster_terms.specs.Replication.{groups_of}
use Rattle.cluster_terms.specs.declared.replication.Replication.{Replication}
use Rattle.transformations.specs.MovementDeltas.{gained_at, lost_at, placed_before}
use Rattle.transformations.specs.declared.image.Image.{Image}
use Rattle.transformations.specs.declared.sequence.SeqRow.{SeqRow}
use Rattle.stream_plan.specs.declared.stream_row.StreamFrom.{StreamFrom}
use Rattle.stream_plan.specs.declared.stream_row.StreamFrom.TheVariants.{AnyOf, Strict}

-- the nodes of a group among these nodes
abbrev pub nodes_in : Group → List ℕ → List ℕ
nodes_in g ns = filter (λ n. is_some (g.rack_of n)) ns

-- the lost node in the place of a gained node: the i-th lost node for the i-th gained one, if there are that many
abbrev pub paired : List ℕ → List ℕ → ℕ → Option ℕ
paired [] lost n = None
paired (g ∷ gained) [] n = None
paired (g ∷ gained) (l ∷ lost) n = if nat_eq n g then Some l else paired gained lost n

-- the node from which a node streams strictly, if there is one: the lost node in its place among the nodes of its group
abbrev pub strict_source : List Group → List ℕ → List ℕ → ℕ → Option ℕ
strict_source [] gained lost n = None
strict_source (g ∷ gs) gained lost n =
    if is_some (g.rack_of n) then paired (nodes_in g gained) (nodes_in g lost) n else strict_source gs gained lost n

-- from where a gained node streams: strictly from its source, and without one from any of the nodes placed before
abbrev pub from_source : List ℕ → Option ℕ → StreamFrom
from_source before None = AnyOf before
from_source before (Some source) = Strict source

-- from where a gained node streams, by the nodes that are gained and lost
abbrev pub streams_from : List Group → List ℕ → List ℕ → List ℕ → ℕ → StreamFrom
streams_from gs before gained lost n = from_source before (strict_source gs gained lost n)

-- from where a node that a movement adds at a token streams there
abbrev pub source_at : Image → Replication → SeqRow → ℤ → ℕ → StreamFrom
source_at image r s x n = streams_from (groups_of image.nodes r) (placed_before image r x) (gained_at image r s x) (lost_at image r s x) n

-- whether a node streams strictly from one of these nodes
abbrev pub is_strictly_from : List ℕ → StreamFrom → Bool
is_strictly_from taken (Strict source) = is_member nat_eq taken source
is_strictly_from taken (AnyOf nodes) = false
