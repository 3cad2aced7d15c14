-- Placement maps that show an image.
use Rattle.std.specs.Prelude.{◌≡◌, List, map}
use Rattle.std.specs.List.{AllByRecursion}
use Rattle.cluster_terms.specs.Arc.{IsToken}
use Rattle.cluster_terms.specs.declared.replication.Replication.{Replication}
use Rattle.placement_deltas.specs.Replications.{replications_of}
use Rattle.transformations.specs.Rings.{cuts}
use Rattle.transformations.specs.declared.image.Image.{Image}
use Rattle.range_placements.specs.declared.map_row.MapRow.{MapRow}
use Rattle.placement_maps.specs.Maps.{placement_rows}

-- a row of a book has the placement map of its replication; and the cuts of the image are tokens
abbrev pub IsMapOf : Image → MapRow → Type 0
IsMapOf image row = (row.map ≡ placement_rows image row.replication) × AllByRecursion IsToken (cuts image)

-- a book has the placement map of each of these replications
pub record AreMapsOf (image : Image) (rs : List Replication) (book : List MapRow) : Type 0 where
  pub replications : map (λ row. row.replication) book ≡ rs
  pub placements : AllByRecursion (IsMapOf image) book

-- a book has the placement map of each replication that a keyspace has
abbrev pub AreMaps : Image → List MapRow → Type 0
AreMaps image book = AreMapsOf image (replications_of image.keyspaces) book
