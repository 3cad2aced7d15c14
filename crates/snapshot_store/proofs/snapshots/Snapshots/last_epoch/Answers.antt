use Rattle.std.proofs.Common.{◌≤◌, List, subst}
use Rattle.std.specs.List.{AllByRecursion}
use Rattle.transformations.specs.declared.image.Image.{Image}
use Rattle.snapshot_store.proofs.NearestImages.{none_past_last}
use Rattle.snapshot_store.proofs.snapshots.Snapshots.last_epoch.Goals as goal

pub returns-in-Some-clause-greatest : goal.returns-in-Some-clause-greatest
returns-in-Some-clause-greatest c =
    subst (λ (images : List Image). AllByRecursion (λ kept. kept.epoch ≤ c.in-Some.image.now.epoch) images) c.self.view_is
    (none_past_last c.self.inside.images.items c.in-Some.image.now c.self.invariant (rw c.deref.ensures.value at c.in-Some.ensures.value))
