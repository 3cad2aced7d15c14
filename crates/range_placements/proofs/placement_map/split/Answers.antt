use Rattle.std.proofs.Common.{◌≡◌, ◌<◌, List, length, get_or, slice_set, ap, sym, subst, ◌∙◌}
use Rattle.std.proofs.lemmas.Bool.{true≢false}
use Rattle.std.proofs.lemmas.Bool.Decides.{Decides-int_eq}
use Rattle.std.proofs.lemmas.List.{get_or_default}
use Rattle.std.specs.List.{insert}
use Rattle.cluster_terms.specs.Row.{last_token}
use Rattle.cluster_terms.specs.declared.token.RightEnd.TheVariants.{At}
use Rattle.range_placements.proofs.MapCuts.{split_at_end, split_before}
use Rattle.range_placements.proofs.MapRows.{Splits}
use Rattle.range_placements.proofs.placement_map.split.Goals as goal
use Rattle.range_placements.specs.Placements.{row_until}
use Rattle.range_placements.specs.declared.placement_row.PlacementRow.{PlacementRow}

pub returns-then-eq-clause-rows : goal.returns-then-eq-clause-rows
returns-then-eq-clause-rows c =
    let split : Splits c.args.t c.args.rows.now.items c.row_index-at.result =
    subst (λ (rows : List PlacementRow). Splits c.args.t rows c.row_index-at.result) c.as_slice.ensures.value c.row_index-at.ensures.row in
    let within : c.row_index-at.result < length c.args.rows.now.items =
    subst (λ (rows : List PlacementRow). c.row_index-at.result < length rows) c.as_slice.ensures.value c.row_index-at.ensures.bound in
    let row : get_or c.args.rows.now.items c.row_index-at.result c.index_mut.result.now ≡ c.index.result.now =
    get_or_default c.args.rows.now.items c.row_index-at.result c.index_mut.result.now c.index.result.now within ∙ sym c.index.ensures in
    let end : last_token (get_or c.args.rows.now.items c.row_index-at.result c.index_mut.result.now).right ≡ c.args.t =
    ap (λ (r : PlacementRow). last_token r.right) row ∙ sym c.last_token.ensures ∙ (Decides-int_eq c.last_token.result c.args.t).0 (sym c.eq.ensures ∙ c.if-eq.true) in
    ap (λ (r : PlacementRow). slice_set c.args.rows.now.items c.row_index-at.result (row_until r (At c.args.t))) c.index_mut.ensures.value
    ∙ split_at_end c.args.rows.now.items c.args.t c.row_index-at.result c.index_mut.result.now split within end

pub returns-in_ok-insert-clause-rows : goal.returns-in_ok-insert-clause-rows
returns-in_ok-insert-clause-rows c =
    let split : Splits c.args.t c.args.rows.now.items c.row_index-at.result =
    subst (λ (rows : List PlacementRow). Splits c.args.t rows c.row_index-at.result) c.as_slice.ensures.value c.row_index-at.ensures.row in
    let within : c.row_index-at.result < length c.args.rows.now.items =
    subst (λ (rows : List PlacementRow). c.row_index-at.result < length rows) c.as_slice.ensures.value c.row_index-at.ensures.bound in
    let row : get_or c.args.rows.now.items c.row_index-at.result c.index-else-eq.result.now ≡ c.index.result.now =
    get_or_default c.args.rows.now.items c.row_index-at.result c.index-else-eq.result.now c.index.result.now within ∙ sym c.index.ensures in
    let put : c.in_ok-row.row ≡ row_until (get_or c.args.rows.now.items c.row_index-at.result c.index-else-eq.result.now) (At c.args.t) =
    c.in_ok-row.ensures ∙ ap (λ (r : PlacementRow). row_until r (At c.args.t)) c.index-else-eq.ensures in
    c.in_ok-insert.ensures.items
    ∙ ap (insert c.args.rows.now.items c.row_index-at.result) put
    ∙ split_before c.args.rows.now.items c.args.t c.row_index-at.result c.index-else-eq.result.now split within
    (λ end. true≢false (sym ((Decides-int_eq c.last_token.result c.args.t).1 (c.last_token.ensures ∙ ap (λ (r : PlacementRow). last_token r.right) (sym row) ∙ end)) ∙ sym c.eq.ensures ∙ c.if-eq.false))
