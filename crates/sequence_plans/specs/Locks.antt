-- The locks of the movements in flight: what the table of locked ranges has.
use Rattle.std.specs.Prelude.{◌≡◌, List, [], ◌∷◌, map}
use Rattle.std.specs.List.{AllByRecursion}
use Rattle.token_ring.specs.TokenRanges.{HaveTokens}
use Rattle.token_ring.specs.declared.range_book.LockRow.{LockRow}
use Rattle.placement_deltas.specs.Replications.{replications_of}
use Rattle.transformations.specs.Ranges.{in_ranges}
use Rattle.transformations.specs.declared.image.Image.{Image}
use Rattle.transformations.specs.declared.sequence.SeqRow.{SeqRow}

-- the lock of a movement: its node, and under each replication of the keyspaces the tokens of its ranges
pub record IsLockOf (image : Image) (s : SeqRow) (row : LockRow) : Type 0 where
  pub node : row.node ≡ s.node
  pub rows : map (λ r. r.replication) row.ranges ≡ replications_of image.keyspaces
  pub ranges : AllByRecursion (λ r. HaveTokens (in_ranges image r.replication s) r.ranges) row.ranges

-- the locks of these movements, in their order, and no other lock
abbrev pub AreLocksOf : Image → List SeqRow → List LockRow → Type 0
AreLocksOf image [] [] = Unit {0}
AreLocksOf image [] (row ∷ rows) = ⊥
AreLocksOf image (s ∷ sequences) [] = ⊥
AreLocksOf image (s ∷ sequences) (row ∷ rows) = IsLockOf image s row × AreLocksOf image sequences rows
