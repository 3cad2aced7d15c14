use Rattle.std.proofs.Common.{◌≡◌, ◌+◌, ◌≤◌, true, length, take}
use Rattle.std.specs.Map.{values_of}
use Rattle.indexmap.specs.IndexMap.{spare}
use Rattle.node_directory.specs.Directory.{names_are_distinct, node_names}
use Rattle.node_directory.specs.code.StoredRows.{AreNamed}
use Rattle.node_directory.proofs.stored_rows.by_name.Given as goal

-- the rows so far are kept under their names, which are distinct, and the others have room
abbrev pub invariant-loop-row : goal.invariant-loop-row
invariant-loop-row l = record {
  named : AreNamed l.nodes.entries;
  rows : values_of l.nodes.entries ≡ take l.row-index l.rows;
  distinct : names_are_distinct (node_names (take l.row-index l.rows)) ≡ true;
  spare : l.more + length l.rows ≤ spare l.nodes + l.row-index;
}
