-- The placement maps of an image: under each replication, the rows between cuts with their reads and writes.
use Rattle.std.specs.Prelude.{List, map}
use Rattle.cluster_terms.specs.Row.{last_token, rows_between}
use Rattle.cluster_terms.specs.declared.replication.Replication.{Replication}
use Rattle.cluster_terms.specs.declared.row.TokenRange.{TokenRange}
use Rattle.range_placements.specs.declared.placement_row.PlacementRow.{PlacementRow}
use Rattle.transformations.specs.Rings.{cuts, reads_at, writes_at}
use Rattle.transformations.specs.declared.image.Image.{Image}

-- a row between cuts, with the nodes that are read and the nodes that are written at its last token
abbrev pub placement_row : Image → Replication → TokenRange → PlacementRow
placement_row image r row =
    record { right = row.right; reads = reads_at image r (last_token row.right); writes = writes_at image r (last_token row.right) }

-- the placement map of a replication: the rows between the cuts of the image
abbrev pub placement_rows : Image → Replication → List PlacementRow
placement_rows image r = map (placement_row image r) (rows_between (cuts image))
