use Rattle.std.proofs.Common.{◌≡◌, drop}
use Rattle.std.specs.Vec.Iter.{into_iter_items}
use Rattle.range_placements.proofs.edits_in_room.skip_rows.Given as goal

-- the rows so far are removed
abbrev pub invariant-loop-done : goal.invariant-loop-done
invariant-loop-done l = into_iter_items l.left ≡ drop l._done (into_iter_items l.initial.left)
