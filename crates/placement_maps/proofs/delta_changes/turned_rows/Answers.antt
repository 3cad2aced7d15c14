use Rattle.std.proofs.Common.{◌≡◌, List, [], take, ap, sym, ◌∙◌, subst}
use Rattle.std.proofs.lemmas.List.{append-nil, take_all}
use Rattle.range_placements.specs.Exchanging.{with_changes}
use Rattle.range_placements.specs.declared.placement_row.PlacementRow.{PlacementRow}
use Rattle.placement_maps.specs.code.Turns.{turned_rows}
use Rattle.placement_maps.proofs.delta_changes.turned_rows.Goals as goal

pub returns : goal.returns
returns c =
    let at = c.loop-at.at in
    let rows = c.args.map.now in
    let all : take at rows ≡ rows = subst (λ (l : List PlacementRow). take at l ≡ l) c.rows-count.ensures.rows (take_all at c.rows-count.result.now c.loop-at-test.false) in
    ap (with_changes c.loop-at.changes) (sym (append-nil (take at rows) ∙ all))
    ∙ c.loop-at.invariant.sets []
    ∙ append-nil (turned_rows c.args.turn (take at rows) c.args.delta.now)
    ∙ ap (λ (l : List PlacementRow). turned_rows c.args.turn l c.args.delta.now) all
