use Rattle.std.proofs.Common.{◌∙◌}
use Rattle.cluster_metadata.proofs.in_flight.MovementPlaces.{at_index, phased_at}
use Rattle.cluster_metadata.proofs.movements.rows_in_place.bring_to.Goals as goal

pub returns : goal.returns
returns c =
    let here = rw (c.into_vec-items.ensures, c.replace.ensures.value) at c.index_mut.ensures.value in
    c.from_vec.ensures ∙ rw (c.into_vec-items.ensures, c.replace.ensures.value) (phased_at c.args.phase c.args.rows.now c.args.at c.index_mut.result.now (at_index _ _ _ c.requires here))
