use Rattle.std.proofs.Common.{◌≡◌, ◌∙◌}
use Rattle.quorum_sets.proofs.PendingLemmas.{exist_local, local_write}
use Rattle.quorum_sets.proofs.counting.local_quorum.Goals as goal

pub returns-clause-write : goal.returns-clause-write
returns-clause-write c =
    let factor : c.from.result ≡ c.factor_of-rf.result = c.from.ensures ∙ c.value.ensures.value in
    rw (c.quorum_of-read_need.ensures, factor)
    (local_write c.args.dir.now.rows c.args.factors.now c.args.dc.now c.args.reads.now c.args.writes.now c.factor_of-rf.result c.count_local_pending-pending.result c.factor_of-rf.ensures c.count_local_pending-pending.ensures.count)

pub returns-clause-exist : goal.returns-clause-exist
returns-clause-exist c =
    let counted = c.count_local_pending-pending.ensures in
    exist_local c.args.dir.now.rows c.args.dc.now c.args.reads.now c.args.writes.now c.from.result c.quorum_of-read_need.result c.count_local_pending-pending.result counted.reads counted.writes c.quorum_of-read_need.ensures counted.count
