use Rattle.std.proofs.Common.{◌≡◌, ◌↔◌, length}
use Rattle.std.specs.List.{AllByRecursion, AllPairs}
use Rattle.token_ring.specs.TokenRanges.{AreCutOut}
use Rattle.locked_ranges.specs.Conflict.{overlap_among}
use Rattle.locked_ranges.specs.Sharing.{ShareNoToken}
use Rattle.locked_ranges.proofs.overlap.first_overlap.Given as goal

-- no movement so far shares a row with a later one
abbrev pub invariant-loop-row : goal.invariant-loop-row
invariant-loop-row l = record {
  overlap : overlap_among l.rows l.cuts ≡ overlap_among l.rest l.cuts;
  apart : AllPairs (λ one other. ShareNoToken one.ranges other.ranges) l.rows ↔ AllPairs (λ one other. ShareNoToken one.ranges other.ranges) l.rest;
  cut_out : AllByRecursion (λ w. AllByRecursion (λ r. AreCutOut l.cuts r.ranges) w.ranges) l.rest;
}

abbrev pub decreases-loop-row : goal.decreases-loop-row
decreases-loop-row l = length l.rest
