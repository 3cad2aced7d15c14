use Rattle.std.proofs.Common.{subst, sym}
use Rattle.transformations.proofs.histories.HistoryLemmas.{valid_at}
use Rattle.transformations.specs.Log.{commands_of}
use Rattle.transformations.specs.Valid.{IsValid}
use Rattle.snapshot_store.proofs.snapshots.Snapshots.state_at.Goals as goal

pub metadata_of-requires : goal.metadata_of-requires
metadata_of-requires c = subst IsValid (sym c.in_ok-image.ensures) (valid_at (commands_of c.args.log.now) c.args.e c.requires.history)
