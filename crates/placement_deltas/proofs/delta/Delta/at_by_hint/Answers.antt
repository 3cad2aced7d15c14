use Rattle.std.proofs.Common.{ap, ◌∙◌, List, subst, sym}
use Rattle.placement_deltas.proofs.DeltaLemmas.{covers_ring, found_at}
use Rattle.placement_deltas.proofs.delta.Delta.at_by_hint.Goals as goal
use Rattle.placement_deltas.specs.Deltas.{IsDelta, change_in, delta_at}
use Rattle.placement_deltas.specs.declared.delta_row.DeltaRow.{DeltaRow}

pub row_index_by_hint-found-requires : goal.row_index_by_hint-found-requires
row_index_by_hint-found-requires c = covers_ring _ (subst IsDelta (sym c.rows-rows.ensures.rows) c.rows-rows.ensures.delta)

pub returns-clause-delta : goal.returns-clause-delta
returns-clause-delta c =
    ap change_in c.index-rows-found.is
    ∙ found_at c.rows-rows.result.now c.args.t c.row_index_by_hint-found.result c.index-rows-found.result c.row_index_by_hint-found.ensures.row c.row_index_by_hint-found.ensures.bound
    ∙ ap (λ (rows : List DeltaRow). delta_at rows c.args.t) c.rows-rows.ensures.rows
