use Rattle.std.proofs.Common.{List, None, map, ap, sym, ◌∙◌, subst}
use Rattle.placement_deltas.proofs.SideDeltas.{side_is, side_told}
use Rattle.placement_deltas.specs.Deltas.{IsDelta, delta_at}
use Rattle.placement_deltas.specs.code.JoinedRows.{joined_from, row_of_side}
use Rattle.placement_deltas.specs.declared.delta_row.DeltaRow.{DeltaRow}
use Rattle.placement_deltas.proofs.delta.Delta.only.Goals as goal

pub invariant_of-result : goal.invariant_of-result
invariant_of-result c =
    let is = c.in_ok-rows.ensures ∙ ap (λ (rows : List DeltaRow). joined_from None (map (row_of_side c.args.side) rows)) c.rows.ensures.rows in
    subst IsDelta (sym is) (side_is c.args.side c.args.self.now c.rows.ensures.delta)

pub returns : goal.returns
returns c x token =
    let is = c.in_ok-rows.ensures ∙ ap (λ (rows : List DeltaRow). joined_from None (map (row_of_side c.args.side) rows)) c.rows.ensures.rows in
    ap (λ (rows : List DeltaRow). delta_at rows x) is ∙ side_told c.args.side c.args.self.now c.rows.ensures.delta x token
