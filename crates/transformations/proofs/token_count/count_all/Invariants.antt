use Rattle.std.proofs.Common.{◌≡◌, ◌+◌, ◌-◌, ◌^◌, ◌++◌, length, min, take}
use Rattle.transformations.specs.Rings.{incoming}
use Rattle.transformations.proofs.token_count.count_all.Given as goal

-- the tokens, the pairs of the ring and those of the movements so far are counted
abbrev pub invariant-loop-row : goal.invariant-loop-row
invariant-loop-row l = l.count ≡ min (length (l.image.tokens ++ incoming (take l.row-index l.row-items)) + length l.tokens) (2 ^ 64 - 1)
