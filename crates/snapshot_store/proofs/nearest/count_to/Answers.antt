use Rattle.std.proofs.Common.{nat_le, rules}
use Rattle.std.proofs.lemmas.List.Sorted.{IsPartitionPoint-from_clause, IsPartitionedBy-leb}
use Rattle.transformations.specs.declared.image.Image.{Image}
use Rattle.snapshot_store.proofs.NearestImages.{epochs_ascend, split_from_tests}
use Rattle.snapshot_store.proofs.nearest.count_to.Goals as goal

pub returns-clause-split : goal.returns-clause-split
returns-clause-split c =
    split_from_tests _ _ _
    (IsPartitionPoint-from_clause (λ (image : Image). nat_le image.epoch c.args.e) _ _ c.partition_point.ensures.partitioned
    (IsPartitionedBy-leb (λ (image : Image). image.epoch) _ _ (epochs_ascend _ c.requires)) (λ a r f h. search rules))
