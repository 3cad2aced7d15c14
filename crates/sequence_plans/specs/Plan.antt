-- Plans of movements: their ranges, those of the movements in flight beside them, and their deltas.
use Rattle.std.specs.Prelude.{◌≡◌, List, [], ◌∷◌, map}
use Rattle.std.specs.List.{AllByRecursion}
use Rattle.cluster_terms.specs.Arc.{IsToken}
use Rattle.token_ring.specs.TokenRanges.{AreCutOut, HaveTokens}
use Rattle.token_ring.specs.declared.range_book.LockRow.{LockRow}
use Rattle.token_ring.specs.declared.range_book.RangeRow.{RangeRow}
use Rattle.transformations.specs.Ranges.{in_ranges}
use Rattle.transformations.specs.Rings.{cuts}
use Rattle.transformations.specs.Movements.{others}
use Rattle.transformations.specs.declared.image.Image.{Image}
use Rattle.transformations.specs.declared.sequence.SeqRow.{SeqRow}
use Rattle.placement_deltas.specs.declared.plan.Plan.{Plan}
use Rattle.sequence_plans.specs.PlanDeltas.{HasDeltas}
use Rattle.placement_deltas.specs.Replications.{replications_of}

-- the ranges of a movement under each replication of the keyspaces; the tokens at which they begin and end are cuts
pub record IsBook (image : Image) (s : SeqRow) (book : List RangeRow) : Type 0 where
  pub rows : map (λ r. r.replication) book ≡ replications_of image.keyspaces
  pub ranges : AllByRecursion (λ r. HaveTokens (in_ranges image r.replication s) r.ranges) book
  pub bounds : AllByRecursion (λ r. AreCutOut (cuts image) r.ranges) book

-- the row has a movement's node and its ranges
pub record IsLockRow (image : Image) (s : SeqRow) (row : LockRow) : Type 0 where
  pub node : row.node ≡ s.node
  pub ranges : IsBook image s row.ranges

-- the rows are those of these movements, in their order
abbrev pub AreLocks : Image → List SeqRow → List LockRow → Type 0
AreLocks image [] [] = Unit {0}
AreLocks image [] (row ∷ rows) = ⊥
AreLocks image (s ∷ sequences) [] = ⊥
AreLocks image (s ∷ sequences) (row ∷ rows) = IsLockRow image s row × AreLocks image sequences rows

-- the plan of a movement, in the image that has it: its row, the cuts, its ranges, those of the other movements, and
-- its deltas
pub record IsPlan (image : Image) (s : SeqRow) (plan : Plan) : Type 0 where
  pub row : plan.row ≡ s
  pub cuts : plan.cuts ≡ cuts image
  pub tokens : AllByRecursion IsToken plan.cuts
  pub ranges : IsBook image s plan.ranges
  pub wide : AreLocks image (others image.sequences s.node) plan.wide
  pub deltas : HasDeltas image plan
