use Rattle.std.proofs.Common.{◌≡◌, take}
use Rattle.transformations.specs.Movements.{owned}
use Rattle.sequence_rows.proofs.row_pairs.owned.Given as goal

-- the node's pairs so far
abbrev pub invariant-loop-pair : goal.invariant-loop-pair
invariant-loop-pair l = l.pairs ≡ owned (take l.pair-index l.ring) l.node
