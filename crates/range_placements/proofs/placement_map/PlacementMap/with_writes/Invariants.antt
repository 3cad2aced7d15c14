use Rattle.std.proofs.Common.{◌≡◌, take}
use Rattle.range_placements.proofs.placement_map.PlacementMap.with_writes.Given as goal
use Rattle.range_placements.specs.code.Changing.{rows_changed}
use Rattle.range_placements.specs.Placements.{writes_changed}

abbrev pub invariant-loop-row : goal.invariant-loop-row
invariant-loop-row l = l.rows.items ≡ rows_changed writes_changed l.delta (take l.row-index l.self)
