use Rattle.std.proofs.Common.{◌≡◌, ◌<◌, List, length, slice_set, ap, sym, subst, ◌∙◌, arith}
use Rattle.cluster_terms.specs.declared.token.RightEnd.TheVariants.{Max}
use Rattle.range_placements.proofs.MapCuts.{merged_at, merged_last}
use Rattle.range_placements.proofs.MapRows.{Splits}
use Rattle.range_placements.proofs.placement_map.merge.Goals as goal
use Rattle.range_placements.specs.Placements.{row_until}
use Rattle.range_placements.specs.declared.placement_row.PlacementRow.{PlacementRow}

pub returns-then-at-len : goal.returns-then-at-len
returns-then-at-len c =
    let split : Splits c.args.t c.args.rows.now.items c.row_index-at.result =
    subst (λ (rows : List PlacementRow). Splits c.args.t rows c.row_index-at.result) c.as_slice.ensures.value c.row_index-at.ensures.row in
    let len : length c.args.rows.now.items ≡ c.len.result = ap length (sym c.as_slice.ensures.value) ∙ c.as_slice.ensures.len ∙ sym c.len.ensures in
    c.remove-removed.ensures.items ∙ merged_at c.args.rows.now.items c.args.t c.row_index-at.result split (omega arith)

pub returns-else-at-len : goal.returns-else-at-len
returns-else-at-len c =
    let split : Splits c.args.t c.args.rows.now.items c.row_index-at.result =
    subst (λ (rows : List PlacementRow). Splits c.args.t rows c.row_index-at.result) c.as_slice.ensures.value c.row_index-at.ensures.row in
    let within : c.row_index-at.result < length c.args.rows.now.items =
    subst (λ (rows : List PlacementRow). c.row_index-at.result < length rows) c.as_slice.ensures.value c.row_index-at.ensures.bound in
    let len : length c.args.rows.now.items ≡ c.len.result = ap length (sym c.as_slice.ensures.value) ∙ c.as_slice.ensures.len ∙ sym c.len.ensures in
    ap (λ (r : PlacementRow). slice_set c.args.rows.now.items c.row_index-at.result (row_until r Max)) c.index_mut.ensures.value
    ∙ merged_last c.args.rows.now.items c.args.t c.row_index-at.result c.index_mut.result.now split (omega arith)
