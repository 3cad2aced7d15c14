use Rattle.std.proofs.Common.{◌≡◌, ◌≤◌, ap, is_some}
use Rattle.std.specs.Map.{values_of}
use Rattle.indexmap.specs.IndexMap.{spare}
use Rattle.node_directory.specs.code.StoredRows.{AreNamed}
use Rattle.node_directory.specs.Room.{reserve_at}
use Rattle.node_directory.proofs.DirectoryChanges.{kept-from_rows}
use Rattle.node_directory.proofs.directory.Directory.from_rows.Goals as goal

pub invariant_of-result : goal.invariant_of-result
invariant_of-result c =
    let named : AreNamed c.in-Some.nodes.entries = rw c.in-Some.is at c.in_ok-nodes.ensures.named in
    let rows : values_of c.in-Some.nodes.entries ≡ c.args.rows.now = rw c.in-Some.is at c.in_ok-nodes.ensures.rows in
    let reserve : reserve_at c.args.next ≤ spare c.in-Some.nodes = rw (c.in-Some.is, c.reserve_at.ensures.reserve) at c.in_ok-nodes.ensures.spare in
    (kept-from_rows _ c.args.rows.now c.args.next named rows c.if-not-ids_ascend.ensures (c.in_ok-nodes.ensures.distinct.0 (ap is_some c.in-Some.is)), reserve)
