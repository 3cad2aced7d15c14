use Rattle.std.proofs.Common.{length}
use Rattle.range_placements.specs.Editing.{edited_rows}
use Rattle.range_placements.specs.code.InPlace.{LeadsTo}
use Rattle.range_placements.proofs.edits_in_place.edit_in_place.Given as goal

-- the edits that are left lead to the rows
abbrev pub invariant-loop-keep : goal.invariant-loop-keep
invariant-loop-keep l = LeadsTo l.edits.items l.kept l.gap.from l.gap.to l.rows.items (edited_rows l.fn.edits.items l.fn.keep l.fn.rows.items)

abbrev pub decreases-loop-keep : goal.decreases-loop-keep
decreases-loop-keep l = length l.edits.items
