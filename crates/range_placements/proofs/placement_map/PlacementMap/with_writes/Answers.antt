use Rattle.std.proofs.Common.{◌≤◌, ◌∙◌, List, ◌≡◌, length, ap, sym, subst}
use Rattle.std.proofs.lemmas.List.{take_all}
use Rattle.range_placements.proofs.ChangedRows.{changed_at, changed_map, same_ends}
use Rattle.range_placements.proofs.placement_map.PlacementMap.with_writes.Goals as goal
use Rattle.range_placements.specs.code.Changing.{rows_changed}
use Rattle.range_placements.specs.Placements.{IsPlacementMap, map_at, writes_changed, right_ends}
use Rattle.range_placements.specs.declared.placement_row.PlacementRow.{PlacementRow}

-- all rows are changed
all_changed : (c : goal.After-loop-row) → c.loop-row.rows.items ≡ rows_changed writes_changed c.args.delta.now c.args.self.now
all_changed c =
    let all = take_all c.loop-row.row-index c.args.self.now (subst (λ (rows : List PlacementRow). length rows ≤ c.loop-row.row-index) (c.deref-row-items.ensures.value ∙ c.self.view_is) c.loop-row-test.false) in
    c.loop-row.invariant ∙ ap (rows_changed writes_changed c.args.delta.now) all

-- the rows of a map
is_map : (c : goal.After-loop-row) → IsPlacementMap c.args.self.now
is_map c = subst IsPlacementMap c.self.view_is c.self.invariant

pub invariant_of-result : goal.invariant_of-result
invariant_of-result c = subst IsPlacementMap (sym (all_changed c)) (changed_map writes_changed c.args.delta.now c.args.self.now (is_map c))

pub returns-clause-placement : goal.returns-clause-placement
returns-clause-placement c x token =
    ap (λ (rows : List PlacementRow). map_at rows x) (all_changed c)
    ∙ changed_at writes_changed c.args.delta.now c.args.self.now (is_map c) c.requires.cuts x token

pub returns-clause-ends : goal.returns-clause-ends
returns-clause-ends c = ap right_ends (all_changed c) ∙ same_ends writes_changed c.args.delta.now c.args.self.now
