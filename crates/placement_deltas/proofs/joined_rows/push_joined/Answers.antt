use Rattle.std.proofs.Common.{◌≡◌, List, false, sym, subst}
use Rattle.placement_deltas.proofs.SoFar.{row_more}
use Rattle.placement_deltas.specs.code.Changes.{is_continued, so_far}
use Rattle.placement_deltas.specs.declared.delta_row.DeltaRow.{DeltaRow}
use Rattle.placement_deltas.proofs.joined_rows.push_joined.Goals as goal

pub returns-in_ok-push : goal.returns-in_ok-push
returns-in_ok-push c =
    let other = subst (λ (rows : List DeltaRow). is_continued (so_far rows).begun c.args.row ≡ false) c.deref.ensures.value (sym c.if-is_continued.ensures) in
    row_more c.args.rows.now.items _ c.args.row other c.in_ok-push.ensures.items
