use Rattle.std.proofs.Common.{◌≡◌, take}
use Rattle.transformations.specs.Movements.{pairs_of}
use Rattle.sequence_rows.proofs.row_pairs.pairs_with.Given as goal

-- the pairs of the tokens so far
abbrev pub invariant-loop-token : goal.invariant-loop-token
invariant-loop-token l = l.pairs ≡ pairs_of l.node (take l.token-index l.tokens)
