use Rattle.std.proofs.Common.{◌≡◌, ◌++◌, map, take}
use Rattle.cluster_terms.specs.Replication.{groups_of}
use Rattle.stream_plan.specs.Streams.{row_for}
use Rattle.stream_plan.proofs.stream_rows.push_range.Given as goal

-- the rows of the nodes so far
abbrev pub invariant-loop-to : goal.invariant-loop-to
invariant-loop-to l =
    l.rows ≡ l.fn.rows ++ map (row_for (groups_of l.grouping.directory.now.rows l.grouping.replication.now) l.range l.replaced.before.now l.replaced.gained.now l.replaced.lost.now) (take l.to-index l.to-items)
