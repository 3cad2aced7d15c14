-- The stream plan of a movement: for each range between cuts, the nodes that the movement adds to the replicas, and the
-- nodes from which each of them streams.
use Rattle.std.specs.Prelude.{◌≡◌, ℕ, Bool, not, ◌&&◌, if◌then◌else◌, ℤ, List, map, filter, flat_map, length, Option, Some, None, IfSome, nat_eq}
use Rattle.std.specs.Set.{is_member}
use Rattle.cluster_terms.specs.Arc.{IsToken}
use Rattle.cluster_terms.specs.Group.{Group}
use Rattle.cluster_terms.specs.Replication.{groups_of}
use Rattle.cluster_terms.specs.Row.{is_within, last_token, rows_between}
use Rattle.cluster_terms.specs.declared.replication.Replication.{Replication}
use Rattle.cluster_terms.specs.declared.row.TokenRange.{TokenRange}
use Rattle.placement_maps.specs.Served.{keyspace_of}
use Rattle.transformations.specs.MovementDeltas.{gained_at, lost_at, placed_before, placed_with}
use Rattle.transformations.specs.Rings.{cuts}
use Rattle.transformations.specs.Movements.{movement_of}
use Rattle.transformations.specs.declared.image.Image.{Image}
use Rattle.transformations.specs.declared.keyspace.KeyspaceRow.{KeyspaceRow}
use Rattle.transformations.specs.declared.sequence.SeqRow.{SeqRow}
use Rattle.stream_plan.specs.Sources.{streams_from}
use Rattle.stream_plan.specs.declared.stream_row.StreamRow.{StreamRow}

-- the row of a gained node in a range
abbrev pub row_for : List Group → TokenRange → List ℕ → List ℕ → List ℕ → ℕ → StreamRow
row_for gs range before gained lost n =
    record { left = range.left; right = range.right; to = n; from = streams_from gs before gained lost n }

-- the rows of a range: one for each gained node, ascending
abbrev pub rows_in : List Group → TokenRange → List ℕ → List ℕ → List ℕ → List StreamRow
rows_in gs range before gained lost = map (row_for gs range before gained lost) gained

-- the rows of a range between cuts, by its last token
abbrev pub rows_of_range : Image → Replication → SeqRow → TokenRange → List StreamRow
rows_of_range image r s range =
    let x = last_token range.right in
    rows_in (groups_of image.nodes r) range (placed_before image r x) (gained_at image r s x) (lost_at image r s x)

-- the stream plan of a movement under a replication: the rows of each range between cuts, ascending
abbrev pub stream_rows : Image → Replication → SeqRow → List StreamRow
stream_rows image r s = flat_map (rows_of_range image r s) (rows_between (cuts image))

-- the stream plan of a movement under a keyspace, if there are both
abbrev pub streams_under : Image → Option KeyspaceRow → Option SeqRow → Option (List StreamRow)
streams_under image (Some k) (Some s) = Some (stream_rows image k.replication s)
streams_under image _ _ = None

-- the stream plan of the movement of a node under the keyspace of this name, if there are both
abbrev pub streams : Image → ℕ → List ℕ → Option (List StreamRow)
streams image n name = streams_under image (keyspace_of image name) (movement_of image n)

-- a fact of the movement of a node under the replication of a keyspace, if there are both
abbrev pub OfMovement : Image → ℕ → List ℕ → (Replication → SeqRow → Type 0) → Type 0
OfMovement image n name Fact = IfSome (keyspace_of image name) (λ k. IfSome (movement_of image n) (Fact k.replication))

-- the range of a row
abbrev pub range_of : StreamRow → TokenRange
range_of row = record { left = row.left; right = row.right }

-- whether a row is for a node at a token
abbrev pub is_for : ℤ → ℕ → StreamRow → Bool
is_for x n row = is_within x (range_of row) && nat_eq n row.to

-- rows cover what a movement adds: at each token, each node that is placed with the movement and not before it has one
-- row, and no other node has one
abbrev pub CoverGains : Image → List StreamRow → Replication → SeqRow → Type 0
CoverGains image rows r s = (x : ℤ) (n : ℕ) → IsToken x
    → length (filter (is_for x n) rows)
    ≡ (if is_member nat_eq (placed_with image r s x) n && not (is_member nat_eq (placed_before image r x) n) then 1 else 0)
