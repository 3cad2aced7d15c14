use Rattle.std.proofs.Common.{◌≡◌, ◌+◌, ◌≤◌, length, ◌++◌}
use Rattle.std.specs.Map.{values_of}
use Rattle.indexmap.specs.IndexMap.{spare}
use Rattle.node_directory.specs.code.StoredRows.{AreNamed}
use Rattle.node_directory.specs.Room.{reserve_at}
use Rattle.node_directory.proofs.directory.DirectoryTryCopy.copy.Given as goal

-- the rows so far are kept under their names, and the others follow and have room
abbrev pub invariant-loop-row : goal.invariant-loop-row
invariant-loop-row l = record {
  named : AreNamed l.nodes.entries;
  rows : values_of l.nodes.entries ++ l.row-iterator ≡ values_of l.self-inside.nodes.entries;
  spare : length l.row-iterator + reserve_at l.self-inside.next ≤ spare l.nodes;
}
