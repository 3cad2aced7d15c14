use Rattle.std.proofs.Common.{◌≡◌, take}
use Rattle.sequence_plans.specs.code.NearCuts.{near_cuts}
use Rattle.sequence_plans.proofs.near_cuts.near_cuts.Given as goal

-- the cuts near the ranges so far
abbrev pub invariant-loop-range : goal.invariant-loop-range
invariant-loop-range l = l.near.items ≡ near_cuts l.cuts (take l.range-index l.ranges)
