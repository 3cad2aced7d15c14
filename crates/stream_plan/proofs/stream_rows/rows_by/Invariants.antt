use Rattle.std.proofs.Common.{◌≡◌, ◌++◌, None, drop, take}
use Rattle.std.specs.List.{AllByRecursion}
use Rattle.cluster_terms.specs.Arc.{IsToken}
use Rattle.cluster_terms.specs.Replication.{groups_of}
use Rattle.cluster_terms.specs.Row.{last_token}
use Rattle.stream_plan.specs.code.RowSteps as spec
use Rattle.stream_plan.proofs.stream_rows.rows_by.Given as goal

-- the rows so far, and those that the rows of the map give that are left; the last tokens so far are tokens
abbrev pub invariant-loop-row : goal.invariant-loop-row
invariant-loop-row l =
    let gs = groups_of l.grouping.directory.now.rows l.grouping.replication.now in
    record {
      rows : l.rows ++ spec.rows_by gs l.changes.is_read l.changes.delta.now l.left (drop l.row-index l.map) ≡ spec.rows_by gs l.changes.is_read l.changes.delta.now None l.map;
      tokens : AllByRecursion (λ row. IsToken (last_token row.right)) (take l.row-index l.map);
    }
