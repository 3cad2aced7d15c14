use Rattle.std.proofs.Common.{◌∙◌, sym, subst}
use Rattle.range_placements.specs.Placements.{IsPlacementMap}
use Rattle.placement_maps.proofs.ImageMaps.{is_map}
use Rattle.placement_maps.proofs.MapBooks.{placed_rows}
use Rattle.placement_maps.proofs.map_basis.MapBasis.place_map.Goals as goal

pub from_rows-requires : goal.from_rows-requires
from_rows-requires g c =
    let rows = placed_rows c.args.self.now.image.now c.args.self.now.rings _ c.args.replication.now c.in_ok-placers.placers c.requires.rings c.requires.nodes c.in_ok-placers.ensures _ (c.as_slice-ranges.ensures ∙ c.requires.ranges) in
    subst IsPlacementMap (sym (c.in_ok-rows.ensures ∙ rows)) (is_map c.args.self.now.image.now c.args.replication.now c.requires.tokens)

pub returns : goal.returns
returns g c =
    let rows = placed_rows c.args.self.now.image.now c.args.self.now.rings _ c.args.replication.now c.in_ok-placers.placers c.requires.rings c.requires.nodes c.in_ok-placers.ensures _ (c.as_slice-ranges.ensures ∙ c.requires.ranges) in
    c.from_rows.ensures ∙ c.in_ok-rows.ensures ∙ rows
