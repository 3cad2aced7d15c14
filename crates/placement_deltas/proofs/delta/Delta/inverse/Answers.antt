use Rattle.std.proofs.Common.{◌≤◌, ◌∙◌, List, length, ap, sym, subst}
use Rattle.std.proofs.lemmas.List.{take_all}
use Rattle.placement_deltas.proofs.DeltaLemmas.{inverse_is}
use Rattle.placement_deltas.proofs.delta.Delta.inverse.Goals as goal
use Rattle.placement_deltas.specs.Deltas.{IsDelta, inverse_of}
use Rattle.placement_deltas.specs.declared.delta_row.DeltaRow.{DeltaRow}

pub invariant_of-result : goal.invariant_of-result
invariant_of-result c =
    let all = take_all c.loop-row.row-index c.args.self.now (subst (λ (rows : List DeltaRow). length rows ≤ c.loop-row.row-index) c.rows-row-items.ensures.rows c.loop-row-test.false) in
    subst IsDelta (sym (c.loop-row.invariant ∙ ap inverse_of all)) (inverse_is c.args.self.now c.rows-row-items.ensures.delta)
