use Rattle.std.proofs.Common.{◌≡◌, ◌++◌, ◌∷◌, [], ◌+◌, map, take, sym, ap, ◌∙◌, subst}
use Rattle.std.proofs.lemmas.List.{map-append, take_more}
use Rattle.cluster_terms.specs.declared.row.TokenRange.{TokenRange}
use Rattle.placement_deltas.proofs.ChangesLemmas.{joined_more}
use Rattle.placement_deltas.specs.code.Changes.{AreJoined}
use Rattle.placement_deltas.specs.declared.delta_row.DeltaRow.{DeltaRow}
use Rattle.replica_placer.specs.Placers.{placed_by}
use Rattle.sequence_plans.specs.code.RowChanges.{change_at}
use Rattle.sequence_plans.proofs.row_changes.changes_of.Goals as goal

pub loop-row-preserved : goal.loop-row-preserved
loop-row-preserved g c =
    let change : TokenRange → DeltaRow = change_at c.args.ranges.now (placed_by c.args.placers.now.before) (placed_by c.args.placers.now.after) in
    let rows = c.as_slice-rows.result.now in
    let i = c.loop-row.row-index in
    let row = c.row-item.result in
    let more : map change (take (i + 1) rows) ≡ map change (take i rows) ++ change row ∷ [] =
    ap (map change) (take_more rows i row c.loop-row-test.true ∙ ap (λ r. take i rows ++ r ∷ []) (sym c.row-item.is)) ∙ map-append change (take i rows) (row ∷ []) in
    subst (λ l. AreJoined l c.push_row.new.changes) (sym more) (joined_more _ _ _ _ c.loop-row.invariant c.in_ok-push_row.ensures)
