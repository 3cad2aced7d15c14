use Rattle.std.proofs.Common.{◌≡◌, length}
use Rattle.range_placements.specs.Editing.{edited}
use Rattle.placement_maps.proofs.RevisedBooks.{LeadsToAll}
use Rattle.placement_maps.specs.code.Turns.{recut_rows}
use Rattle.placement_maps.proofs.delta_changes.recut_book.Given as goal

-- the edits so far, with those of the maps that are left, are those of all maps
abbrev pub invariant-loop-row : goal.invariant-loop-row
invariant-loop-row l = (length l.book ≡ length l.deltas → length l.row-iterator.a.rest.now ≡ length l.row-iterator.b.rest.now)
    × LeadsToAll edited (recut_rows l.turn l.ranges) l.edits.items l.row-iterator.a.rest.now l.row-iterator.b.rest.now l.book l.deltas
