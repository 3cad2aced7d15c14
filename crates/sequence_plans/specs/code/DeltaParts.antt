-- The deltas of a movement, as they are found.
use Rattle.std.specs.Prelude.{List, map}
use Rattle.cluster_terms.specs.declared.replication.Replication.{Replication}
use Rattle.token_ring.specs.declared.range_book.RangeRow.{RangeRow}
use Rattle.transformations.specs.declared.image.Image.{Image}
use Rattle.transformations.specs.declared.sequence.SeqRow.{SeqRow}
use Rattle.sequence_plans.specs.PlanDeltas.{AreStepDeltas}
use Rattle.placement_deltas.specs.ExactDeltas.{IsExact, gained_by, lost_by, no_nodes}
use Rattle.sequence_plans.specs.declared.plan_deltas.DeltaBooks.{DeltaBooks}
use Rattle.sequence_plans.specs.declared.plan_deltas.Deltas.{Deltas}

-- the deltas of a movement's steps under one replication
pub record AreExact (image : Image) (s : SeqRow) (r : Replication) (deltas : Deltas) : Type 0 where
  pub gain : IsExact (gained_by image s r) (no_nodes r) deltas.gain
  pub swap : IsExact (gained_by image s r) (lost_by image s r) deltas.swap
  pub lose : IsExact (no_nodes r) (lost_by image s r) deltas.lose

-- and under the replications of these rows, in their order
abbrev pub AreBooks : Image → SeqRow → List RangeRow → DeltaBooks → Type 0
AreBooks image s ranges books = AreStepDeltas image s (map (λ r. r.replication) ranges) books.gain books.swap books.lose
