use Rattle.std.proofs.Common.{◌≡◌, Some, option_map, ap, sym, ◌∙◌, subst}
use Rattle.transformations.specs.declared.keyspace.KeyspaceRow.{KeyspaceRow}
use Rattle.placement_maps.proofs.MapBooks.{map_found}
use Rattle.placement_maps.specs.Maps.{placement_rows}
use Rattle.placement_maps.specs.code.ShownMaps.{AreMaps}
use Rattle.placement_maps.specs.Served.{keyspace_of}
use Rattle.cluster_metadata.proofs.metadata.Metadata.map.Goals as goal

pub returns-in-Some-clause-found : goal.returns-in-Some-clause-found
returns-in-Some-clause-found c =
    let image = c.args.self.now in
    let found : keyspace_of image c.args.keyspace.now ≡ Some c.in-Some.row.now = sym c.in-Some.ensures.found in
    let are : AreMaps image c.self.inside.maps = subst (λ i. AreMaps i c.self.inside.maps) c.self.view_is c.self.invariant.maps in
    c.find_map.ensures ∙ map_found image c.self.inside.maps c.args.keyspace.now c.in-Some.row.now are found
    ∙ ap (option_map (λ (k : KeyspaceRow). placement_rows image k.replication)) (sym found)
