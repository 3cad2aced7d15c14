use Rattle.std.proofs.Common.{◌≡◌, take}
use Rattle.cluster_metadata.proofs.image_numbers.is_same_ring.Given as goal

-- the pairs so far are equal
abbrev pub invariant-loop-at : goal.invariant-loop-at
invariant-loop-at l = take l.at l.pairs ≡ take l.at l.others
