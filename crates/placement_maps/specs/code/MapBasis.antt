-- The values from which the placement maps of an image are made.
use Rattle.std.specs.Prelude.{◌≡◌, List, [], ◌∷◌}
use Rattle.std.specs.List.{AllByRecursion}
use Rattle.std.specs.List.Sorted.{IsPermutation}
use Rattle.std.specs.Ordering.{nat_cmp}
use Rattle.cluster_terms.specs.Arc.{IsToken}
use Rattle.cluster_terms.specs.Ascending.{put_all}
use Rattle.cluster_terms.specs.Row.{last_token, rows_between}
use Rattle.cluster_terms.specs.declared.node.NodeRow.{NodeRow}
use Rattle.cluster_terms.specs.declared.replication.Replication.{Replication}
use Rattle.cluster_terms.specs.declared.row.TokenRange.{TokenRange}
use Rattle.cluster_terms.specs.declared.token.RightEnd.TheVariants.{Max}
use Rattle.range_placements.specs.declared.placement_row.PlacementRow.{PlacementRow}
use Rattle.replica_placer.specs.Placers.{PlacesOn, placed_by}
use Rattle.replica_placer.specs.declared.placer.Placer.{Placer}
use Rattle.transformations.specs.Rings.{cuts, low_ring, read_ring, high_ring}
use Rattle.transformations.specs.declared.image.Image.{Image}
use Rattle.placement_maps.specs.declared.map_basis.MapBasis.{MapBasis}
use Rattle.placement_maps.specs.declared.placers.Placers.{Placers}
use Rattle.placement_maps.specs.declared.image_rings.Rings.{Rings}

-- each ring has the same pairs as the image's ring of this kind
pub record AreRings (image : Image) (rings : Rings) : Type 0 where
  pub low : IsPermutation (low_ring image) rings.low
  pub read : IsPermutation (read_ring image) rings.read
  pub high : IsPermutation (high_ring image) rings.high

-- the rings of an image with the directory of its nodes, and the rows between its cuts
pub record IsMapBasis (basis : MapBasis) : Type 0 where
  pub rings : AreRings basis.image.now basis.rings
  pub nodes : basis.directory.now.rows ≡ basis.image.now.nodes
  pub ranges : basis.ranges ≡ rows_between (cuts basis.image.now)
  pub tokens : AllByRecursion IsToken (cuts basis.image.now)

-- the placers of a replication on these rings
pub record PlaceOnRings (rings : Rings) (nodes : List NodeRow) (replication : Replication) (placers : Placers) : Type 0 where
  pub low : PlacesOn rings.low nodes replication placers.low
  pub read : PlacesOn rings.read nodes replication placers.read
  pub high : PlacesOn rings.high nodes replication placers.high

-- a range, with the nodes that one placer gives at its last token as the reads and as the writes
abbrev pub row_placed_once : Placer → TokenRange → PlacementRow
row_placed_once placer range = let nodes = placed_by placer (last_token range.right) in record { right = range.right; reads = nodes; writes = nodes }

-- all tokens in one row, without nodes
abbrev pub one_row_without_nodes : List PlacementRow
one_row_without_nodes = record { right = Max; reads = []; writes = [] } ∷ []

-- a range, with the nodes that the placers give at its last token
abbrev pub row_placed : Placers → TokenRange → PlacementRow
row_placed placers range =
    let last = last_token range.right in
    let writes = put_all nat_cmp (placed_by placers.low last) (placed_by placers.high last) in
    record { right = range.right; reads = placed_by placers.read last; writes = writes }
