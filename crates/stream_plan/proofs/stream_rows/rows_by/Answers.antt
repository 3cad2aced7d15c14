use Rattle.cluster_terms.specs.Replication.{groups_of}
use Rattle.stream_plan.proofs.planned_rows.RowStepLemmas.{one_more, token_more}
use Rattle.stream_plan.proofs.stream_rows.rows_by.Goals as goal

pub loop-row-preserved : goal.loop-row-preserved
loop-row-preserved c =
    let told = c.in_ok-push_row.ensures in
    let grouping = c.args.grouping.now in
    let changes = c.args.changes.now in
    let gs = groups_of grouping.directory.now.rows grouping.replication.now in
    record {
      rows = one_more gs changes.is_read changes.delta.now c.loop-row.left c.left_after-left.result c.loop-row.rows c.push_row.new.rows _ c.args.map.now c.loop-row.row-index c.row-item.result
          c.loop-row-test.true c.row-item.is c.loop-row.invariant.rows told.rows c.left_after-left.ensures;
      tokens = token_more c.args.map.now c.loop-row.row-index c.row-item.result c.loop-row-test.true c.row-item.is told.token c.loop-row.invariant.tokens;
    }
