use Rattle.std.proofs.Common.{◌≡◌, map, take}
use Rattle.range_placements.specs.declared.map_row.MapRow.{MapRow}
use Rattle.placement_maps.proofs.keyspace_maps.replications_in.Given as goal

-- the replications of the maps so far
abbrev pub invariant-loop-row : goal.invariant-loop-row
invariant-loop-row l = l.list.items ≡ map (λ (row : MapRow). row.replication) (take l.row-index l.book)
