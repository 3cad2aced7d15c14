use Rattle.stream_plan.proofs.coverage.StreamedLemmas.{AreStreamed, IsPlanned, plan_in, planned, streamed}
use Rattle.stream_plan.proofs.movement_streams.streams.Goals as goal

pub rows_under-requires-clause-plan : goal.rows_under-requires-clause-plan
rows_under-requires-clause-plan c =
    let found = c.in-Some in
    plan_in c.args.meta.now c.args.node found.plan.now (planned c.args.meta.now c.args.node found.plan.now found.ensures.row found.ensures.deltas)

-- the rows are those of the movement
are_streamed : (c : goal.In_ok-rows-in-Some-replication) → AreStreamed c.args.meta.now c.args.node c.args.keyspace.now c.in_ok-rows-in-Some-replication.rows
are_streamed c =
    let image = c.args.meta.now in
    let found = c.in-Some in
    let made = c.in_ok-rows-in-Some-replication in
    let movement : IsPlanned image c.args.node found.plan.now = planned image c.args.node found.plan.now found.ensures.row found.ensures.deltas in
    streamed image c.args.node c.args.keyspace.now made.ensures.valid.sound made.ensures.replications found.plan.now movement
    c.in-Some-replication.replication.now c.in-Some-replication.ensures made.rows made.ensures.rows

pub returns-in_ok-rows-in-Some-replication-clause-rows : goal.returns-in_ok-rows-in-Some-replication-clause-rows
returns-in_ok-rows-in-Some-replication-clause-rows c = (are_streamed c).rows_are

pub returns-in_ok-rows-in-Some-replication-clause-covers : goal.returns-in_ok-rows-in-Some-replication-clause-covers
returns-in_ok-rows-in-Some-replication-clause-covers c = (are_streamed c).covers

pub returns-in_ok-rows-in-Some-replication-clause-readable : goal.returns-in_ok-rows-in-Some-replication-clause-readable
returns-in_ok-rows-in-Some-replication-clause-readable c = (are_streamed c).readable
