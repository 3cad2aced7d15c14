use Rattle.std.proofs.Common.{◌∙◌, ap, sym, subst, List, None}
use Rattle.cluster_terms.specs.Row.{rows_between}
use Rattle.cluster_terms.specs.declared.row.TokenRange.{TokenRange}
use Rattle.placement_deltas.proofs.JoinedDeltas.{between_is, between_shows, between_ends}
use Rattle.placement_deltas.proofs.delta.Delta.between.Goals as goal
use Rattle.placement_deltas.specs.Deltas.{IsDelta, EndAtCuts, ShowsChanges}
use Rattle.placement_deltas.specs.code.JoinedRows.{change_rows, joined_from}

pub invariant_of-result : goal.invariant_of-result
invariant_of-result c =
    let is = c.in_ok-rows.ensures ∙ ap (λ (ranges : List TokenRange). joined_from None (change_rows ranges c.args.before.now c.args.after.now)) (c.as_slice.ensures ∙ c.in_ok-between.ensures.rows) in
    subst IsDelta (sym is) (between_is c.args.cuts.now c.args.before.now c.args.after.now c.requires.ascending c.in_ok-between.ensures.tokens c.requires.before c.requires.after)

pub returns-clause-sets : goal.returns-clause-sets
returns-clause-sets c =
    let is = c.in_ok-rows.ensures ∙ ap (λ (ranges : List TokenRange). joined_from None (change_rows ranges c.args.before.now c.args.after.now)) (c.as_slice.ensures ∙ c.in_ok-between.ensures.rows) in
    subst (ShowsChanges (rows_between c.args.cuts.now) c.args.before.now c.args.after.now) (sym is)
    (between_shows c.args.cuts.now c.args.before.now c.args.after.now c.requires.ascending c.in_ok-between.ensures.tokens c.requires.before c.requires.after)

pub returns-clause-cuts : goal.returns-clause-cuts
returns-clause-cuts c =
    let is = c.in_ok-rows.ensures ∙ ap (λ (ranges : List TokenRange). joined_from None (change_rows ranges c.args.before.now c.args.after.now)) (c.as_slice.ensures ∙ c.in_ok-between.ensures.rows) in
    subst (EndAtCuts c.args.cuts.now) (sym is) (between_ends c.args.cuts.now c.args.before.now c.args.after.now)
