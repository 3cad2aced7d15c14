use Rattle.std.proofs.Common.{◌≡◌, ◌++◌, ◌∷◌, [], List, false, sym, subst, ap, ◌∙◌}
use Rattle.placement_deltas.proofs.SoFar.{row_more}
use Rattle.placement_deltas.specs.code.Changes.{is_continued, so_far}
use Rattle.placement_deltas.specs.code.JoinedRows.{row_of_side}
use Rattle.placement_deltas.specs.declared.delta_row.DeltaRow.{DeltaRow}
use Rattle.placement_deltas.proofs.joined_rows.push_side.Goals as goal

pub returns-in_ok-push : goal.returns-in_ok-push
returns-in_ok-push c =
    let row = row_of_side c.args.side c.args.row.now in
    let rows = c.args.rows.now.items in
    let other = subst (λ (rows : List DeltaRow). is_continued (so_far rows).begun row ≡ false) c.deref.ensures.value (sym c.if-is_continued_on.ensures) in
    row_more rows _ row other (c.in_ok-push.ensures.items ∙ ap (λ (r : DeltaRow). rows ++ r ∷ []) c.in_ok-row_of_side.ensures)
