use Rattle.std.proofs.Common.{◌≡◌, length}
use Rattle.placement_maps.specs.code.MapChanges.{each_exchanged}
use Rattle.placement_maps.proofs.map_book.MapBook.exchange.Given as goal

-- the changes that are left lead to the same maps
abbrev pub invariant-loop-last : goal.invariant-loop-last
invariant-loop-last l = each_exchanged l.changes.items l.self-inside.rows.items ≡ each_exchanged l.initial.changes.items l.initial.self-inside.rows.items

abbrev pub decreases-loop-last : goal.decreases-loop-last
decreases-loop-last l = length l.changes.items
