use Rattle.std.proofs.Common.{◌∙◌}
use Rattle.cluster_metadata.proofs.locks.LockPlaces.{key_fits, key_unlocks}
use Rattle.cluster_metadata.proofs.changes.enact.close_at.Goals as goal

pub unlock-requires : goal.unlock-requires
unlock-requires c = rw c.close-key.ensures (key_fits _ _ _ _ c.requires.names c.requires.place c.remove.ensures.value)

pub returns-clause-locks : goal.returns-clause-locks
returns-clause-locks c = c.unlock.ensures ∙ rw c.close-key.ensures (key_unlocks _ _ _ _ c.requires.names c.requires.place c.remove.ensures.value c.requires.movements)
