use Rattle.std.proofs.Common.{◌≡◌, ◌++◌, drop}
use Rattle.token_ring.specs.Bounds.{bounds_of}
use Rattle.token_ring.proofs.bounds.push_bounds.Given as goal

-- the bounds so far, and those of the ranges that are left
abbrev pub invariant-loop-range : goal.invariant-loop-range
invariant-loop-range l = l.bounds.items ++ bounds_of (drop l.range-index l.ranges) ≡ l.initial.bounds.items ++ bounds_of l.ranges
