use Rattle.std.proofs.Common.{◌≡◌, drop}
use Rattle.node_directory.specs.Directory.{are_ascending, ids_of}
use Rattle.node_directory.proofs.stored_rows.ids_ascend.Given as goal

-- what is asked of all ids is asked of those that are left
abbrev pub invariant-loop-row : goal.invariant-loop-row
invariant-loop-row l = are_ascending 1 (ids_of l.rows) l.next ≡ are_ascending l.least (ids_of (drop l.row-index l.rows)) l.next
