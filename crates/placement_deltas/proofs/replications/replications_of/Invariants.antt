use Rattle.std.proofs.Common.{◌≡◌, take}
use Rattle.placement_deltas.specs.Replications.{replications_of}
use Rattle.placement_deltas.proofs.replications.replications_of.Given as goal

-- the replications of the keyspaces so far
abbrev pub invariant-loop-row : goal.invariant-loop-row
invariant-loop-row l = l.list ≡ replications_of (take l.row-index l.keyspaces)
