use Rattle.std.proofs.Common.{◌≡◌, ◌↔◌, drop}
use Rattle.std.specs.List.{AllByRecursion}
use Rattle.locked_ranges.specs.Conflict.{conflict_of}
use Rattle.locked_ranges.specs.Sharing.{ShareNoToken}
use Rattle.locked_ranges.proofs.first_conflict.first_conflict.Given as goal

-- none of the movements so far shares a row
abbrev pub invariant-loop-row : goal.invariant-loop-row
invariant-loop-row l = record {
  rest : conflict_of l.ours l.wide l.cuts ≡ conflict_of l.ours (drop l.row-index l.wide) l.cuts;
  free : AllByRecursion (λ w. ShareNoToken l.ours w.ranges) l.wide ↔ AllByRecursion (λ w. ShareNoToken l.ours w.ranges) (drop l.row-index l.wide);
}
