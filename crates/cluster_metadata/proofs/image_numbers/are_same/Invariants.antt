use Rattle.std.proofs.Common.{◌≡◌, take}
use Rattle.cluster_metadata.proofs.image_numbers.are_same.Given as goal

-- the rows so far are equal
abbrev pub invariant-loop-at : goal.invariant-loop-at
invariant-loop-at l = take l.at l.rows ≡ take l.at l.others
