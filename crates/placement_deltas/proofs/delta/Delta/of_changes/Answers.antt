use Rattle.std.proofs.Common.{◌∙◌, sym, subst}
use Rattle.placement_deltas.proofs.ChangesLemmas.{joined_all}
use Rattle.placement_deltas.proofs.delta.Delta.of_changes.Goals as goal
use Rattle.placement_deltas.specs.Deltas.{IsDelta}

pub invariant_of-result : goal.invariant_of-result
invariant_of-result c =
    subst IsDelta (sym (c.into_rows-rows.ensures ∙ joined_all c.requires.rows c.args.changes c.requires.joined)) c.requires.delta

pub returns : goal.returns
returns c rows are = c.into_rows-rows.ensures ∙ joined_all rows c.args.changes are
