use Rattle.std.proofs.Common.{sym, arith}
use Rattle.range_placements.specs.Exchanging.{with_changes}
use Rattle.placement_maps.proofs.RevisedBooks.{revised_past, revised_stored}
use Rattle.placement_maps.proofs.map_book.exchange_at.Goals as goal

pub returns-then-at-len : goal.returns-then-at-len
returns-then-at-len c = revised_stored with_changes c.args.changes c.args.rows.now.items c.args.at c.index_mut.result.now _ c.exchange.ensures (omega arith) c.index_mut.ensures.value

pub returns-else-at-len : goal.returns-else-at-len
returns-else-at-len c = sym (revised_past with_changes c.args.changes c.args.rows.now.items c.args.at (omega arith))
