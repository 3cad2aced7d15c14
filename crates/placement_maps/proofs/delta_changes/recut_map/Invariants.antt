use Rattle.std.proofs.Common.{◌≡◌, ◌-◌, ◌≤◌, length, take}
use Rattle.range_placements.specs.Editing.{edited}
use Rattle.placement_maps.specs.code.Turns.{recut_rows}
use Rattle.placement_maps.proofs.delta_changes.recut_map.Given as goal

-- the rows of the ranges so far
abbrev pub invariant-loop-done : goal.invariant-loop-done
invariant-loop-done l = record {
  bound : l.done ≤ length l.ranges;
  rows : edited l.edits l.map ≡ recut_rows l.fn.turn (take l.done l.ranges) l.map l.delta;
}

abbrev pub decreases-loop-done : goal.decreases-loop-done
decreases-loop-done l = length l.ranges - l.done
