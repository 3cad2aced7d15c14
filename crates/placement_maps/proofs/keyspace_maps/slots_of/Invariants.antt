use Rattle.std.proofs.Common.{take}
use Rattle.placement_deltas.specs.Replications.{replications_of}
use Rattle.placement_maps.specs.code.Arrangements.{Arranges}
use Rattle.placement_maps.proofs.keyspace_maps.slots_of.Given as goal

-- the slots of the keyspaces so far, and the replications of the maps that are left
abbrev pub invariant-loop-at : goal.invariant-loop-at
invariant-loop-at g l = Arranges l.image (replications_of (take l.at l.keyspaces)) l.left.items l.slots.items l.known
