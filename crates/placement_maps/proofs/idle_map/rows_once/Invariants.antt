use Rattle.std.proofs.Common.{◌≡◌, map, take}
use Rattle.placement_maps.specs.code.MapBasis.{row_placed_once}
use Rattle.placement_maps.proofs.idle_map.rows_once.Given as goal

-- the rows of the ranges so far
abbrev pub invariant-loop-range : goal.invariant-loop-range
invariant-loop-range g l = l.rows.items ≡ map (row_placed_once l.placer) (take l.range-index l.ranges)
