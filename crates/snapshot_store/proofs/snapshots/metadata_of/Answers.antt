use Rattle.snapshot_store.proofs.NearestImages.{not_bad}
use Rattle.snapshot_store.proofs.snapshots.metadata_of.Goals as goal

pub unreachable-requires : goal.unreachable-requires
unreachable-requires c =
    let shown = rw c.in-Bad.is at c.in-Err.ensures.bad in
    not_bad c.args.image c.in-Bad.field-0 c.requires shown
