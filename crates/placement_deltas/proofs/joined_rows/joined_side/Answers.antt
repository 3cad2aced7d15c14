use Rattle.std.proofs.Common.{◌∙◌, List, None, map, take, ap, sym, subst}
use Rattle.std.proofs.lemmas.List.{take_all}
use Rattle.placement_deltas.proofs.ChangesLemmas.{joined_all, joined_more}
use Rattle.placement_deltas.proofs.SideDeltas.{sides_more}
use Rattle.placement_deltas.specs.code.Changes.{AreJoined, so_far}
use Rattle.placement_deltas.specs.code.JoinedRows.{joined_from, row_of_side}
use Rattle.placement_deltas.specs.declared.delta_row.DeltaRow.{DeltaRow}
use Rattle.placement_deltas.proofs.joined_rows.joined_side.Goals as goal

pub loop-row-preserved : goal.loop-row-preserved
loop-row-preserved c =
    let side = c.args.side in
    let rows = c.args.rows.now in
    let row = c.row-item.result in
    let more = joined_more (map (row_of_side side) (take c.loop-row.row-index rows)) (row_of_side side row) (so_far c.loop-row.joined.items) (so_far c.push_side.new.rows.items) c.loop-row.invariant c.in_ok-push_side.ensures in
    subst (λ (all : List DeltaRow). AreJoined all (so_far c.push_side.new.rows.items)) (sym (sides_more side rows c.loop-row.row-index row c.loop-row-test.true c.row-item.is)) more

pub returns : goal.returns
returns c =
    let side = c.args.side in
    let rows = c.args.rows.now in
    let all = take_all c.loop-row.row-index rows c.loop-row-test.false in
    c.from_vec.ensures ∙ c.end_with_ring.ensures
    ∙ joined_all (map (row_of_side side) (take c.loop-row.row-index rows)) (so_far c.loop-row.joined.items) c.loop-row.invariant
    ∙ ap (λ (l : List DeltaRow). joined_from None (map (row_of_side side) l)) all
