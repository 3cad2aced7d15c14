use Rattle.std.proofs.Common.{◌≡◌, ◌+◌, ◌≤◌, ◌++◌, vec_capacity, vec_len}
use Rattle.std.specs.Vec.Iter.{into_iter_items}
use Rattle.range_placements.specs.Editing.{edited_rows}
use Rattle.range_placements.specs.code.EditCounts.{rows_made}
use Rattle.range_placements.proofs.edits_in_room.edit_into.Given as goal

-- the edits that are left, in the rows that are left, lead to the same rows; and there is room for them
abbrev pub invariant-loop-edit : goal.invariant-loop-edit
invariant-loop-edit l = record {
  next : (goal.iterator-loop-edit).can_next l.edit-iterator;
  finite : (goal.iterator-loop-edit).is_finite l.edit-iterator;
  rows : l.rows.items ++ edited_rows (into_iter_items l.edit-iterator) l.keep (into_iter_items l.left)
      ≡ l.initial.rows.items ++ edited_rows (into_iter_items l.initial.edit-iterator) l.keep (into_iter_items l.initial.left);
  room : vec_len l.rows + rows_made (into_iter_items l.edit-iterator) l.keep ≤ vec_capacity l.rows;
}
