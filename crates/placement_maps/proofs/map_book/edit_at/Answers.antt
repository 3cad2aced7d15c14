use Rattle.std.proofs.Common.{sym, arith}
use Rattle.range_placements.specs.Editing.{edited}
use Rattle.placement_maps.proofs.RevisedBooks.{revised_past, revised_stored}
use Rattle.placement_maps.proofs.map_book.edit_at.Goals as goal

pub edit-requires : goal.edit-requires
edit-requires c = c.requires c.index_mut.result.now (omega arith) c.index_mut.ensures.value

pub returns-then-at-len : goal.returns-then-at-len
returns-then-at-len c = revised_stored edited c.args.edits c.args.rows.now.items c.args.at c.index_mut.result.now _ c.edit.ensures (omega arith) c.index_mut.ensures.value

pub returns-else-at-len : goal.returns-else-at-len
returns-else-at-len c = sym (revised_past edited c.args.edits c.args.rows.now.items c.args.at (omega arith))
