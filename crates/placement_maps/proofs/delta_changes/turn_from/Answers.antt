use Rattle.std.proofs.Common.{◌≡◌, ◌+◌, ◌-◌, ◌∙◌, ℕ, ℤ, suc, List, [], get_or, ap, sym, subst, arith}
use Rattle.std.proofs.lemmas.List.{nil_from_length}
use Rattle.placement_deltas.specs.Deltas.{delta_at}
use Rattle.range_placements.specs.code.Changing.{row_changed}
use Rattle.range_placements.specs.declared.placement_row.PlacementRow.{PlacementRow}
use Rattle.placement_maps.proofs.TurnedRuns.{row_turned, run_turned}
use Rattle.placement_maps.specs.code.Turns.{AreTurned, row_to, turned, with_turned}
use Rattle.placement_maps.proofs.delta_changes.turn_from.Goals as goal

-- a row that the delta doesn't change is passed
pub returns-then-is_empty-2-clause-later : goal.returns-then-is_empty-2-clause-later
returns-then-is_empty-2-clause-later c =
    let rows = c.args.turning.now.map.now in
    let delta = c.args.turning.now.delta.now in
    let row = c.index-rows-at.result in
    let here : row ≡ get_or rows c.args.at row = c.index-rows-at.is ∙ ap (λ (l : List PlacementRow). get_or l c.args.at row) c.rows.ensures.rows in
    let gained : c.at_by_hint.result.0.now ≡ [] = nil_from_length c.at_by_hint.result.0.now (grind (arith, c.if-is_empty.ensures)) in
    let lost : c.at_by_hint.result.1.now ≡ [] = nil_from_length c.at_by_hint.result.1.now (grind (arith, c.if-is_empty-2.ensures)) in
    let shown = c.at_by_hint.ensures.delta ∙ ap (λ (x : ℤ). delta_at delta x) c.last_token.ensures in
    c.kept_up_to.ensures.passes row here (sym shown ∙ cc)

-- rows stay
pub returns-then-is_empty-2-clause-turned : goal.returns-then-is_empty-2-clause-turned
returns-then-is_empty-2-clause-turned c =
    let at = c.args.at in
    let end = c.kept_up_to.result in
    let whole : at + (end - at) ≡ end = omega (arith, c.kept_up_to.ensures.later) in
    subst (λ (n : ℕ). AreTurned c.args.turning.now.turn c.args.turning.now.delta.now c.args.turning.now.map.now n c.args.changes.now) whole
    (run_turned c.args.turning.now.turn c.args.turning.now.delta.now c.args.turning.now.map.now at c.args.changes.now c.requires.turned (end - at) c.kept_up_to.ensures.kept)

-- or one row changes
pub returns-clause-turned : goal.returns-clause-turned
returns-clause-turned c =
    let turn = c.args.turning.now.turn in
    let rows = c.args.turning.now.map.now in
    let delta = c.args.turning.now.delta.now in
    let at = c.args.at in
    let row = c.index-rows-at.result in
    let here : row ≡ get_or rows at row = c.index-rows-at.is ∙ ap (λ (l : List PlacementRow). get_or l at row) c.rows.ensures.rows in
    let shown = c.at_by_hint.ensures.delta ∙ ap (λ (x : ℤ). delta_at delta x) c.last_token.ensures in
    let nodes = c.in_ok-nodes.nodes in
    let sets : with_turned nodes row ≡ row_changed (turned turn) delta row =
    c.in_ok-nodes.ensures ∙ ap (λ (change : List ℕ × List ℕ). row_to row.right (turned turn (row.reads, row.writes) change)) shown in
    let next : suc at ≡ at + 1 = omega arith in
    subst (λ (n : ℕ). AreTurned turn delta rows n c.push_nodes.new.changes) next
    (row_turned turn delta rows at c.args.changes.now c.requires.turned row nodes c.push_nodes.new.changes c.requires.bound here sets c.in_ok-push_nodes.ensures)
