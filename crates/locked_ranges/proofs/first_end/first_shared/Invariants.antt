use Rattle.std.proofs.Common.{◌≡◌, ◌↔◌, IsNone}
use Rattle.std.specs.List.{AllByRecursion}
use Rattle.token_ring.specs.TokenRanges.{AreCutOut}
use Rattle.locked_ranges.specs.Conflict.{first_shared_end}
use Rattle.locked_ranges.specs.code.FirstEnd.{first_end}
use Rattle.locked_ranges.specs.Sharing.{ShareNoToken}
use Rattle.locked_ranges.proofs.first_end.first_shared.Given as goal

-- the first row so far, and the first one under the replications that are left
abbrev pub invariant-loop-our : goal.invariant-loop-our
invariant-loop-our l = record {
  rest : first_end l.first (first_shared_end l.our-iterator.a.rest.now l.our-iterator.b.rest.now l.cuts) ≡ first_shared_end l.ours l.theirs l.cuts;
  none : (IsNone l.first × ShareNoToken l.our-iterator.a.rest.now l.our-iterator.b.rest.now) ↔ ShareNoToken l.ours l.theirs;
  ours : AllByRecursion (λ r. AreCutOut l.cuts r.ranges) l.our-iterator.a.rest.now;
  theirs : AllByRecursion (λ r. AreCutOut l.cuts r.ranges) l.our-iterator.b.rest.now;
}
