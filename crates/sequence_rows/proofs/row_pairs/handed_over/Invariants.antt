use Rattle.std.proofs.Common.{◌≡◌, map, take}
use Rattle.transformations.specs.Movements.{pairs_of}
use Rattle.sequence_rows.proofs.row_pairs.handed_over.Given as goal

-- the pairs of the tokens so far
abbrev pub invariant-loop-pair : goal.invariant-loop-pair
invariant-loop-pair l = l.handed ≡ pairs_of l.node (map (λ p. p.token) (take l.pair-index l.pairs))
