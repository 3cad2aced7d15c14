use Rattle.std.proofs.Common.{◌≡◌, take}
use Rattle.placement_deltas.specs.Deltas.{inverse_of}
use Rattle.placement_deltas.proofs.delta.Delta.inverse.Given as goal

abbrev pub invariant-loop-row : goal.invariant-loop-row
invariant-loop-row l = l.rows ≡ inverse_of (take l.row-index l.self)
