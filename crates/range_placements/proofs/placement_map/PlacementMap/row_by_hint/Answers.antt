use Rattle.std.proofs.Common.{ap, ◌∙◌, List}
use Rattle.range_placements.proofs.MapRows.{found_at}
use Rattle.range_placements.proofs.placement_map.PlacementMap.row_by_hint.Goals as goal
use Rattle.range_placements.specs.Placements.{map_at, placement_in}
use Rattle.range_placements.specs.declared.placement_row.PlacementRow.{PlacementRow}

pub returns-clause-placement : goal.returns-clause-placement
returns-clause-placement c =
    ap placement_in c.index-rows-found.is
    ∙ found_at c.rows-rows.result.now c.args.t c.row_index_by_hint-found.result c.index-rows-found.result c.row_index_by_hint-found.ensures.row c.row_index_by_hint-found.ensures.bound
    ∙ ap (λ (rows : List PlacementRow). map_at rows c.args.t) c.rows-rows.ensures.rows
