use Rattle.std.proofs.Common.{List, ap, sym, subst, ◌∙◌, rules}
use Rattle.placement_deltas.proofs.DeltaLemmas.{covers_ring, found_at, found_from}
use Rattle.placement_deltas.proofs.delta.Delta.unchanged_from.Goals as goal
use Rattle.placement_deltas.specs.Deltas.{IsDelta, change_in, delta_at}
use Rattle.placement_deltas.specs.declared.delta_row.DeltaRow.{DeltaRow}

pub row_index_by_hint-found-requires : goal.row_index_by_hint-found-requires
row_index_by_hint-found-requires c = covers_ring _ (subst IsDelta (sym c.rows-rows.ensures.rows) c.rows-rows.ensures.delta)

pub returns-then-not-changes_nothing-clause-changed : goal.returns-then-not-changes_nothing-clause-changed
returns-then-not-changes_nothing-clause-changed c none nothing =
    let at =
    found_at c.rows-rows.result.now c.args.t c.row_index_by_hint-found.result c.index-rows-found.result c.row_index_by_hint-found.ensures.row c.row_index_by_hint-found.ensures.bound
    ∙ ap (λ (rows : List DeltaRow). delta_at rows c.args.t) c.rows-rows.ensures.rows in
    c.if-not-changes_nothing.ensures.no (search rules) (ap change_in c.index-rows-found.is ∙ at ∙ nothing)

pub returns-clause-unchanged : goal.returns-clause-unchanged
returns-clause-unchanged c x from upto =
    let delta = subst IsDelta (sym c.rows-rows.ensures.rows) c.rows-rows.ensures.delta in
    ap (λ (rows : List DeltaRow). delta_at rows x) (sym c.rows-rows.ensures.rows)
    ∙ found_from c.rows-rows.result.now c.args.t c.row_index_by_hint-found.result c.index-rows-found.result delta c.row_index_by_hint-found.ensures.row c.row_index_by_hint-found.ensures.bound c.index-rows-found.is x from (rw c.last_token-last.ensures at upto)
    ∙ c.if-not-changes_nothing.ensures.yes (search rules)
