use Rattle.cluster_metadata.proofs.in_flight.ResumeLemmas.{sound_resumed}
use Rattle.cluster_metadata.proofs.locks.LocksResumed.{take_whole}
use Rattle.cluster_metadata.proofs.locks.RenewedLocks.{deltas_next, locks_next, row_there, rows_next, rows_taken}
use Rattle.transformations.specs.declared.sequence.Phase.TheVariants as phase
use Rattle.cluster_metadata.proofs.movements.renewing.plan_all.Goals as goal

pub planned-requires-clause-sound : goal.planned-requires-clause-sound
planned-requires-clause-sound g c =
    let here = rw c.as_slice-row-items.ensures at c.row-item.is in
    let within = rw c.as_slice-row-items.ensures at c.loop-row-test.true in
    rw c.in_ok-prepared.ensures (sound_resumed phase.Prepared _ _ c.requires.sound (row_there _ _ _ within here))

pub loop-row-preserved : goal.loop-row-preserved
loop-row-preserved g c =
    let here = rw c.as_slice-row-items.ensures at c.row-item.is in
    let within = rw c.as_slice-row-items.ensures at c.loop-row-test.true in
    let there = row_there _ _ _ within here in
    let is = rw c.in_ok-prepared.ensures at c.in_ok-plan.ensures in
    let taken = rows_taken _ _ _ within here in
    record {
      rows = rw (taken, c.in_ok-push-2.ensures.items, c.parted-ranges.ensures.plan) (rows_next _ c.requires.sound _ there _ is _ _ c.loop-row.invariant.rows);
      deltas = rw (c.in_ok-push-2.ensures.items, c.parted-ranges.ensures.plan) (deltas_next _ c.requires.sound _ there _ is _ c.loop-row.invariant.deltas);
      locks = rw (taken, c.in_ok-push.ensures.items, c.parted-ranges.ensures.ranges) (locks_next _ c.requires.sound _ there _ is _ _ c.loop-row.invariant.locks);
    }

pub returns : goal.returns
returns g c =
    let over = rw c.as_slice-row-items.ensures at c.loop-row-test.false in
    let whole = take_whole _ _ over in
    record {
      rows = rw whole at c.loop-row.invariant.rows;
      deltas = c.loop-row.invariant.deltas;
      locks = rw (c.from_vec.ensures) (rw whole at c.loop-row.invariant.locks);
    }
