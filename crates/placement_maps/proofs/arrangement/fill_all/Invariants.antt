use Rattle.std.proofs.Common.{◌≡◌, ◌+◌, ◌≤◌, ◌++◌, length, vec_capacity, vec_len}
use Rattle.std.specs.Vec.Iter.{into_iter_items}
use Rattle.placement_maps.specs.code.Arrangements.{arranged}
use Rattle.placement_maps.proofs.arrangement.fill_all.Given as goal

-- the slots that are left, with the maps that are left, lead to the same book; and there is room for their maps
abbrev pub invariant-loop-slot : goal.invariant-loop-slot
invariant-loop-slot l = record {
  next : (goal.iterator-loop-slot).can_next l.slot-iterator;
  finite : (goal.iterator-loop-slot).is_finite l.slot-iterator;
  maps : l.room.items ++ arranged (into_iter_items l.slot-iterator) l.book.items ≡ l.initial.room.items ++ arranged (into_iter_items l.initial.slot-iterator) l.initial.book.items;
  room : vec_len l.room + length (into_iter_items l.slot-iterator) ≤ vec_capacity l.room;
}
