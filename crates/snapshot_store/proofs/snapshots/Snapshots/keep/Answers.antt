use Rattle.std.proofs.Common.{sym, subst}
use Rattle.snapshot_store.specs.Images.{Ascend}
use Rattle.snapshot_store.proofs.NearestImages.{kept_push}
use Rattle.snapshot_store.proofs.snapshots.Snapshots.keep.Goals as goal
use Rattle.snapshot_store.proofs.snapshots.Snapshots.keep.Goals.{in-Ok, in-Err}

pub invariant_of-self : goal.invariant_of-self
invariant_of-self c =
    elim c.match-push.branch [
      | in-Ok w ↦ subst Ascend (sym w.in-Ok.ensures.items) (kept_push c.self.inside.images.items c.args.image c.self.invariant (rw (← c.self.view_is) at c.requires))
      | in-Err w ↦ subst Ascend (sym w.in-Err.ensures.items) c.self.invariant
    ]
