use Rattle.std.proofs.Common.{◌≡◌, ◌+◌, ◌≤◌, ◌++◌, take, drop, vec_capacity, vec_len}
use Rattle.std.specs.Vec.Iter.{into_iter_items}
use Rattle.range_placements.proofs.edits_in_room.move_rows.Given as goal

-- the rows so far are moved, and the others are left
abbrev pub invariant-loop-done : goal.invariant-loop-done
invariant-loop-done l = record {
  items : l.rows.items ≡ l.initial.rows.items ++ take l._done (into_iter_items l.initial.left);
  left : into_iter_items l.left ≡ drop l._done (into_iter_items l.initial.left);
  count : vec_len l.rows ≤ vec_len l.initial.rows + l._done;
  room : vec_capacity l.initial.rows ≤ vec_capacity l.rows;
}
