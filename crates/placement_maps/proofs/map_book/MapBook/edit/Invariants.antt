use Rattle.std.proofs.Common.{◌≡◌, length}
use Rattle.placement_maps.specs.code.MapChanges.{ArePlacementMaps, each_edited}
use Rattle.placement_maps.proofs.map_book.MapBook.edit.Given as goal

-- the edits that are left lead to the same maps
abbrev pub invariant-loop-last : goal.invariant-loop-last
invariant-loop-last l = record {
  same : each_edited l.edits.items l.self-inside.rows.items ≡ each_edited l.initial.edits.items l.initial.self-inside.rows.items;
  maps : ArePlacementMaps (each_edited l.edits.items l.self-inside.rows.items);
}

abbrev pub decreases-loop-last : goal.decreases-loop-last
decreases-loop-last l = length l.edits.items
