use Rattle.std.proofs.Common.{◌≡◌, map, take}
use Rattle.placement_maps.specs.code.MapBasis.{row_placed}
use Rattle.placement_maps.proofs.placers.Placers.rows.Given as goal

-- the rows of the ranges so far
abbrev pub invariant-loop-range : goal.invariant-loop-range
invariant-loop-range g l = l.rows.items ≡ map (row_placed l.self) (take l.range-index l.ranges)
