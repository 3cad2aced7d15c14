use Rattle.cluster_metadata.proofs.locks.LockPlaces.{last_closed}
use Rattle.cluster_metadata.proofs.movements.running.close_all.Goals as goal

pub unlock-requires : goal.unlock-requires
unlock-requires c =
    let are = rw c.in-Some.ensures.items at c.loop-movement.invariant in
    rw c.close.ensures (last_closed _ _ _ are).0

pub loop-movement-preserved : goal.loop-movement-preserved
loop-movement-preserved c =
    let are = rw c.in-Some.ensures.items at c.loop-movement.invariant in
    rw (c.unlock.ensures, c.close.ensures) (last_closed _ _ _ are).1
