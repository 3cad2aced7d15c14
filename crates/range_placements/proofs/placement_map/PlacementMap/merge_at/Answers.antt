use Rattle.std.proofs.Common.{List, ap, sym, subst, ◌∙◌}
use Rattle.range_placements.proofs.MapCuts.{merged_cuts, merged_map, merged_same}
use Rattle.range_placements.proofs.placement_map.PlacementMap.merge_at.Goals as goal
use Rattle.range_placements.specs.Placements.{IsPlacementMap, cuts_of, merged_rows, map_at}
use Rattle.range_placements.specs.declared.placement_row.PlacementRow.{PlacementRow}

pub invariant_of-self : goal.invariant_of-self
invariant_of-self c = subst IsPlacementMap (sym c.merge.ensures) (merged_map c.self.inside.rows.items c.args.t c.self.invariant)

pub returns-clause-same : goal.returns-clause-same
returns-clause-same c x =
    ap (λ (rows : List PlacementRow). map_at rows x) (c.merge.ensures ∙ ap (λ (rows : List PlacementRow). merged_rows rows c.args.t) c.self.view_is)
    ∙ merged_same c.args.self.now c.args.t x (subst IsPlacementMap c.self.view_is c.self.invariant) c.requires.cut c.requires.sides

pub returns-clause-cuts : goal.returns-clause-cuts
returns-clause-cuts c =
    ap cuts_of (c.merge.ensures ∙ ap (λ (rows : List PlacementRow). merged_rows rows c.args.t) c.self.view_is)
    ∙ merged_cuts c.args.self.now c.args.t (subst IsPlacementMap c.self.view_is c.self.invariant) c.requires.cut
