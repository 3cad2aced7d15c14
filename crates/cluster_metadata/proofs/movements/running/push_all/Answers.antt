use Rattle.cluster_metadata.proofs.locks.LockLemmas.{locks_cut}
use Rattle.cluster_metadata.proofs.locks.LocksResumed.{cause_through, deltas_more, locks_more, locks_of, next_apart, next_cause, next_new, next_taken, running_more, so_far, take_whole}
use Rattle.cluster_metadata.proofs.movements.running.push_all.Goals as goal

pub add-requires-clause-new : goal.add-requires-clause-new
add-requires-clause-new g c =
    let here = rw c.as_slice-row-items.ensures at c.row-item.is in
    let within = rw c.as_slice-row-items.ensures at c.loop-row-test.true in
    next_new _ c.requires.sound _ _ c.loop-row.invariant.locks _ within here

pub add-requires-clause-cut : goal.add-requires-clause-cut
add-requires-clause-cut g c = locks_cut _ _ _ c.loop-row.invariant.locks

pub loop-row-preserved : goal.loop-row-preserved
loop-row-preserved g c =
    let here = rw c.as_slice-row-items.ensures at c.row-item.is in
    let within = rw c.as_slice-row-items.ensures at c.loop-row-test.true in
    let taken = next_taken _ c.requires.sound _ _ c.loop-row.invariant.locks _ within here in
    let added = c.in_ok-add.ensures.added in
    record {
      rows = rw (taken, added.running) (running_more _ _ _ _ c.loop-row.invariant.rows added.row);
      deltas = rw added.running (deltas_more _ _ _ c.loop-row.invariant.deltas added.deltas);
      locks = rw (taken, added.table) (locks_more _ _ _ _ _ c.loop-row.invariant.locks added.lock);
      apart = next_apart _ c.requires.sound _ _ c.loop-row.invariant.locks _ within here (c.in_ok-add.ensures.overlap _ c.loop-row.invariant.locks) c.loop-row.invariant.apart;
    }

pub returns-in_err-add-clause-locked : goal.returns-in_err-add-clause-locked
returns-in_err-add-clause-locked g c =
    rw (c.in_err-add.ensures.added.0, c.in_err-add.ensures.added.1) (so_far _ c.requires.sound _ _ c.loop-row.invariant.locks _ c.loop-row.invariant.rows)

pub returns-clause-locks : goal.returns-clause-locks
returns-clause-locks g c =
    let over = rw c.as_slice-row-items.ensures at c.loop-row-test.false in
    let whole = take_whole _ _ over in
    locks_of _ _ _ (rw whole at c.loop-row.invariant.locks)

pub returns-clause-locked : goal.returns-clause-locked
returns-clause-locked g c = so_far _ c.requires.sound _ _ c.loop-row.invariant.locks _ c.loop-row.invariant.rows

pub returns-in_err-add-clause-overlap : goal.returns-in_err-add-clause-overlap
returns-in_err-add-clause-overlap g c =
    let here = rw c.as_slice-row-items.ensures at c.row-item.is in
    let within = rw c.as_slice-row-items.ensures at c.loop-row-test.true in
    let found = c.in_err-add.ensures.overlap _ c.loop-row.invariant.locks in
    cause_through _ _ _ c.from_residual.ensures.1 (next_cause _ c.requires.sound _ _ c.loop-row.invariant.locks _ within here (Unit {0}) c.in_err-add.field-0.0 found c.loop-row.invariant.apart)
