use Rattle.std.proofs.Common.{List, subst}
use Rattle.placement_deltas.specs.Replications.{replications_of}
use Rattle.transformations.specs.declared.keyspace.KeyspaceRow.{KeyspaceRow}
use Rattle.cluster_metadata.proofs.map_changes.ChangedMaps.{arranged_maps}
use Rattle.placement_maps.specs.code.Arrangements.{arranged}
use Rattle.placement_maps.specs.code.ShownMaps.{AreMapsOf}
use Rattle.range_placements.specs.declared.map_row.MapRow.{MapRow}
use Rattle.cluster_metadata.proofs.changes.maps_after.maps_under.Goals as goal

pub returns : goal.returns
returns c =
    let image = c.args.image.now in
    let slots = c.in_ok-next.next in
    arranged_maps image c.args.change.now c.args.keyspaces.now c.args.maps.now slots c.requires.change c.requires.maps
    (subst (λ (rows : List KeyspaceRow). AreMapsOf image (replications_of rows) (arranged slots c.args.maps.now)) c.as_slice-keyspaces.ensures
    (subst (λ (book : List MapRow). AreMapsOf image (replications_of c.as_slice-keyspaces.result.now) (arranged slots book)) c.as_slice.ensures c.in_ok-next.ensures))
