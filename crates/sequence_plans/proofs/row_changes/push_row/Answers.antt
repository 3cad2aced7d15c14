use Rattle.std.proofs.Common.{OnOk, sym, ◌∙◌, subst}
use Rattle.placement_deltas.specs.code.Changes.{AreWithRow}
use Rattle.placement_deltas.specs.declared.delta_row.DeltaRow.{DeltaRow}
use Rattle.sequence_plans.proofs.RowChangeLemmas.{outside_ranges, within_ranges}
use Rattle.replica_placer.specs.Placers.{placed_by}
use Rattle.sequence_plans.proofs.row_changes.push_row.Goals as goal

pub returns-then-not-contains : goal.returns-then-not-contains
returns-then-not-contains g c =
    let is =
    outside_ranges c.args.ranges.now (placed_by c.args.placers.now.before) (placed_by c.args.placers.now.after) c.args.row.now c.last_token-last.result c.last_token-last.ensures
    (sym c.contains.ensures ∙ c.if-not-contains.true) in
    subst (λ (row : DeltaRow). OnOk c.push_unchanged.result (AreWithRow c.args.changes.now row c.push_unchanged.new.self)) is c.push_unchanged.ensures

pub returns : goal.returns
returns g c =
    let is =
    within_ranges c.args.ranges.now (placed_by c.args.placers.now.before) (placed_by c.args.placers.now.after) c.args.row.now c.last_token-last.result c.last_token-last.ensures _ _
    (sym c.contains.ensures ∙ c.if-not-contains.false) c.in_ok-before.ensures.placement c.in_ok-after.ensures.placement in
    subst (λ (row : DeltaRow). OnOk c.push.result (AreWithRow c.args.changes.now row c.push.new.self)) is c.push.ensures
