use Rattle.std.proofs.Common.{◌≡◌, take, map}
use Rattle.range_placements.specs.Placements.{right_ends}
use Rattle.placement_maps.proofs.delta_changes.count_same.Given as goal

-- the rows so far have the right ends of as many ranges
abbrev pub invariant-loop-at : goal.invariant-loop-at
invariant-loop-at l = right_ends (take l.at l.rows) ≡ map (λ range. range.right) (take l.at l.ranges)
