use Rattle.std.proofs.Common.{◌+◌}
use Rattle.quorum_sets.proofs.PendingLemmas.{exist_together}
use Rattle.quorum_sets.proofs.counting.quorum.Goals as goal

pub returns-clause-exist : goal.returns-clause-exist
returns-clause-exist c =
    let counted = c.count_pending-pending.ensures in
    exist_together c.total.result c.args.reads.now c.args.writes.now _ _ counted.reads counted.writes c.quorum_of-read_need.ensures (λ i. c.quorum_of-read_need.ensures i + counted.count i)
