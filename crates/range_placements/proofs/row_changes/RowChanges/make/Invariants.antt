use Rattle.std.proofs.Common.{◌≡◌, length}
use Rattle.range_placements.specs.Exchanging.{with_changes}
use Rattle.range_placements.proofs.row_changes.RowChanges.make.Given as goal

-- the changes that are left lead to the same rows
abbrev pub invariant-loop-change : goal.invariant-loop-change
invariant-loop-change l = with_changes l.self-inside.changes.items l.rows.items ≡ with_changes l.initial.self-inside.changes.items l.initial.rows.items

abbrev pub decreases-loop-change : goal.decreases-loop-change
decreases-loop-change l = length l.self-inside.changes.items
