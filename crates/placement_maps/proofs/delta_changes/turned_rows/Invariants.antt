use Rattle.std.proofs.Common.{◌-◌, ◌≤◌, length}
use Rattle.placement_maps.specs.code.Turns.{AreTurned}
use Rattle.placement_maps.proofs.delta_changes.turned_rows.Given as goal

-- the rows so far have their new sets
abbrev pub invariant-loop-at : goal.invariant-loop-at
invariant-loop-at l = record {
  bound : l.at ≤ length l.map;
  sets : AreTurned l.fn.turn l.delta l.map l.at l.changes;
}

abbrev pub decreases-loop-at : goal.decreases-loop-at
decreases-loop-at l = length l.map - l.at
