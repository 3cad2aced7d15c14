use Rattle.std.proofs.Common.{◌+◌, ◌-◌, length}
use Rattle.token_ring.proofs.RangesApart.{ShareFrom}
use Rattle.token_ring.proofs.common.are_apart.Given as goal

-- the tokens in common are those that are left in both lists
abbrev pub invariant-loop-i : goal.invariant-loop-i
invariant-loop-i l = ShareFrom l.a l.b l.i l.j

abbrev pub decreases-loop-i : goal.decreases-loop-i
decreases-loop-i l = (length l.a - l.i) + (length l.b - l.j)
