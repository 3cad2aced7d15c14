use Rattle.std.proofs.Common.{ap, ◌∙◌, List, subst, sym}
use Rattle.placement_deltas.proofs.DeltaLemmas.{covers_ring, found_at}
use Rattle.placement_deltas.proofs.delta.Delta.at.Goals as goal
use Rattle.placement_deltas.specs.Deltas.{IsDelta, change_in, delta_at}
use Rattle.placement_deltas.specs.declared.delta_row.DeltaRow.{DeltaRow}

pub row_index-requires : goal.row_index-requires
row_index-requires c = covers_ring _ (subst IsDelta (sym c.rows-rows.ensures.rows) c.rows-rows.ensures.delta)

pub returns : goal.returns
returns c =
    ap change_in c.index-rows-row_index.is
    ∙ found_at c.rows-rows.result.now c.args.t c.row_index.result c.index-rows-row_index.result c.row_index.ensures.row c.row_index.ensures.bound
    ∙ ap (λ (rows : List DeltaRow). delta_at rows c.args.t) c.rows-rows.ensures.rows
