use Rattle.std.proofs.Common.{◌∙◌}
use Rattle.cluster_terms.proofs.texts.ReplicationLemmas.{beside}
use Rattle.cluster_terms.specs.Replication.{same_factor_row}
use Rattle.cluster_terms.proofs.replication.same_rows.Goals as goal

pub returns-then-rows-others : goal.returns-then-rows-others
returns-then-rows-others c = c.same_beside.ensures ∙ beside same_factor_row c.args.rows.now c.args.others.now c.if-rows-others.true
