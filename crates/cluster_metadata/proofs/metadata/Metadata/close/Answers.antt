use Rattle.cluster_metadata.proofs.locks.LockPlaces.{all_locked, locks_named}
use Rattle.cluster_metadata.proofs.metadata.Metadata.close.Goals as goal

pub close_all-requires : goal.close_all-requires
close_all-requires c =
    all_locked c.self.inside.image.sequences _ _ c.self.invariant.valid.sound.movements c.self.invariant.running (locks_named _ _ _ c.self.invariant.locks)
