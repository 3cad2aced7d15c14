use Rattle.std.proofs.Common.{◌≡◌, ◌+◌, ◌≤◌, take, vec_capacity, vec_len}
use Rattle.range_placements.proofs.edits_in_place.open_gap.Given as goal

-- the rows before the gap stay, and there is room for the others
abbrev pub invariant-loop-new : goal.invariant-loop-new
invariant-loop-new l = record {
  rows : take l.from l.rows.items ≡ take l.from l.fn.rows.items;
  len : vec_len l.rows ≡ l.from + l._new;
  room : l.from + l.count ≤ vec_capacity l.rows;
}
