use Rattle.std.proofs.Common.{refl}
use Rattle.transformations.proofs.histories.ValidLemmas.{valid_empty}
use Rattle.cluster_metadata.proofs.metadata.Metadata.empty.Goals as goal

pub invariant_of-result : goal.invariant_of-result
invariant_of-result c =
    rw c.empty_image-image.ensures
    (record {
      valid = valid_empty;
      replications = tt;
      directory = c.in_ok-directory.ensures;
      maps = rw c.empty.ensures (record { replications = refl; placements = tt });
      running = rw c.empty-2.ensures.running refl;
      deltas = rw c.empty-2.ensures.running tt;
      locks = rw c.empty-2.ensures.locks tt;
    })
