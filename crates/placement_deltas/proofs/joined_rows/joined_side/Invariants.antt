use Rattle.std.proofs.Common.{map, take}
use Rattle.placement_deltas.specs.code.Changes.{AreJoined, so_far}
use Rattle.placement_deltas.specs.code.JoinedRows.{row_of_side}
use Rattle.placement_deltas.proofs.joined_rows.joined_side.Given as goal

-- the rows so far, on this side
abbrev pub invariant-loop-row : goal.invariant-loop-row
invariant-loop-row l = AreJoined (map (row_of_side l.side) (take l.row-index l.rows)) (so_far l.joined.items)
