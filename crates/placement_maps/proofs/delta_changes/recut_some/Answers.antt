use Rattle.std.proofs.Common.{◌≡◌, ◌++◌, ◌-◌, ◌≤◌, List, take, drop, map, ap, subst, ◌∙◌, arith, length-take}
use Rattle.range_placements.specs.Editing.{edited}
use Rattle.range_placements.specs.Placements.{right_ends}
use Rattle.range_placements.specs.declared.placement_row.PlacementRow.{PlacementRow}
use Rattle.placement_maps.proofs.KeptRows.{kept_rows}
use Rattle.placement_maps.proofs.delta_changes.recut_some.Goals as goal

pub returns-then-count-gt0-clause-rows : goal.returns-then-count-gt0-clause-rows
returns-then-count-gt0-clause-rows c =
    let rows = c.args.turning.now.map.now in
    let at = c.row_by_hint-row.new.hint in
    let m = c.kept_up_to-end.result - at in
    let count = c.count_same-count.result in
    let ranges = take count c.args.ranges.now in
    let is : take m (drop at c.rows.result.now) ≡ take m (drop at rows) = ap (λ (l : List PlacementRow). take m (drop at l)) c.rows.ensures.rows in
    let few : count ≤ m = omega (arith, length-take m (drop at c.rows.result.now), c.count_same-count.ensures.rows) in
    let ends : right_ends (take count (take m (drop at rows))) ≡ map (λ range. range.right) ranges = subst (λ (l : List PlacementRow). right_ends (take count l) ≡ map (λ range. range.right) ranges) is c.count_same-count.ensures.same in
    c.in_ok-keep.ensures.rows rows
    ∙ ap (λ (l : List PlacementRow). edited c.args.edits.now rows ++ l)
    (kept_rows c.args.turning.now.turn rows c.args.turning.now.delta.now at m count ranges c.rows.ensures.map few c.kept_up_to-end.ensures.kept ends)
