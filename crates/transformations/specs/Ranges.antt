-- The ranges of movements (by a rule of this project): the tokens whose replicas a movement may change, whatever
-- happens to the other movements in flight.
use Rattle.std.specs.Prelude.{◌≡◌, ℕ, ◌<◌, Bool, true, false, ◌&&◌, if◌then◌else◌, ℤ, List, ◌∷◌, ◌++◌, flat_map, find, Option, option_map, IfSome}
use Rattle.std.specs.List.{list_any, All, AllByRecursion, AllPairs, Any}
use Rattle.std.specs.Ordering.{nat_cmp}
use Rattle.cluster_terms.specs.Arc.{IsToken}
use Rattle.cluster_terms.specs.Ascending.{put_all}
use Rattle.cluster_terms.specs.Group.{place}
use Rattle.cluster_terms.specs.Pair.{has_pair}
use Rattle.cluster_terms.specs.Reach.{is_reached}
use Rattle.cluster_terms.specs.Replication.{groups_of}
use Rattle.cluster_terms.specs.Row.{rows_between, is_within, last_token}
use Rattle.cluster_terms.specs.declared.replication.Replication.{Replication}
use Rattle.cluster_terms.specs.declared.row.TokenRange.{TokenRange}
use Rattle.cluster_terms.specs.declared.token.Pair.{Pair}
use Rattle.cluster_terms.specs.declared.token.RightEnd.{RightEnd}
use Rattle.transformations.specs.Rings.{fixed_ring, widest, cuts, low_ring, read_ring, high_ring, is_mid, has_started, reads_at, writes_at}
use Rattle.transformations.specs.Movements.{movement_of, others}
use Rattle.transformations.specs.declared.image.Image.{Image}
use Rattle.transformations.specs.declared.sequence.SeqRow.{SeqRow}

-- the pairs that a movement takes out, and those that it puts in
abbrev pub moved_by : SeqRow → List Pair
moved_by s = s.out_pairs ++ s.in_pairs

-- whether x is in the ranges of a movement under a replication: one of its pairs reaches x
unfoldable pub in_ranges : Image → Replication → SeqRow → ℤ → Bool
in_ranges image replication s x = is_reached (groups_of image.nodes replication) (fixed_ring image) (widest image) (moved_by s) x

-- whether x is in the ranges of both movements, under the replication of one keyspace
abbrev pub in_both : Image → SeqRow → SeqRow → ℤ → Bool
in_both image s q x = list_any (λ k. in_ranges image k.replication s x && in_ranges image k.replication q x) image.keyspaces

-- no two movements overlap: under each keyspace, a token is in the ranges of at most one movement
abbrev pub AreApart : Image → Type 0
AreApart image = (x : ℤ) → IsToken x → AllPairs (λ s q. in_both image s q x ≡ false) image.sequences

-- a row stands for its tokens in the ranges of a movement: all of them are in the ranges, or none
abbrev pub StandsInRanges : Image → Replication → SeqRow → TokenRange → Type 0
StandsInRanges image r s row = (x : ℤ) → is_within x row ≡ true → in_ranges image r s x ≡ in_ranges image r s (last_token row.right)

-- each row between cuts stands for its tokens in the ranges of each movement, under every replication
abbrev pub RowsStandInRanges : Image → Type 0
RowsStandInRanges image = (r : Replication) → All (λ s. All (StandsInRanges image r s) (rows_between (cuts image))) image.sequences

-- whether a row is in the ranges of both movements: its last token is
abbrev pub is_shared : Image → SeqRow → SeqRow → TokenRange → Bool
is_shared image s q row = in_both image s q (last_token row.right)

-- the right end of the first row between cuts that is in the ranges of both movements
abbrev pub first_shared : Image → SeqRow → SeqRow → Option RightEnd
first_shared image s q = option_map (λ row. row.right) (find (is_shared image s q) (rows_between (cuts image)))

-- the first row between cuts that is in the ranges of both ends at `right`: no row before it is in the ranges of both
pub record IsFirstShared (image : Image) (s q : SeqRow) (right : RightEnd) : Type 0 where
  pub before : List TokenRange
  pub row : TokenRange
  pub after : List TokenRange
  pub rows : rows_between (cuts image) ≡ before ++ row ∷ after
  pub ends : row.right ≡ right
  pub shared : is_shared image s q row ≡ true
  pub none_before : All (λ r. is_shared image s q r ≡ false) before

-- a movement is locked by that of node n: no movement of a lesser node overlaps it, and the first row in the ranges of
-- both ends at `right`
pub record IsLockedBy (image : Image) (s : SeqRow) (n : ℕ) (right : RightEnd) : Type 0 where
  pub least : (x : ℤ) → IsToken x → All (λ q. q.node < n → in_both image s q x ≡ false) (others image.sequences s.node)
  pub first : Any (λ q. (q.node ≡ n) × IsFirstShared image s q right) (others image.sequences s.node)

-- the pairs of a movement in the ring after an outcome: those that it puts in if it is done, else those it takes out
abbrev pub side : (SeqRow → Bool) → SeqRow → List Pair
side done s = if done s then s.in_pairs else s.out_pairs

-- the ring after an outcome, in which each movement is done or given up
abbrev pub outcome_ring : Image → (SeqRow → Bool) → List Pair
outcome_ring image done = fixed_ring image ++ flat_map (side done) image.sequences

-- two rings with the same pairs, in whatever order
abbrev pub SamePairs : List Pair → List Pair → Type 0
SamePairs ps qs = (p : Pair) → has_pair ps p ≡ has_pair qs p

-- the low, the read and the high ring are the rings after outcomes: no movement is done; the movements at MID are done;
-- the movements at STARTED or MID are done
pub record AreOutcomes (image : Image) : Type 0 where
  pub low : SamePairs (low_ring image) (outcome_ring image (λ s. false))
  pub read : SamePairs (read_ring image) (outcome_ring image (λ s. is_mid s.phase))
  pub high : SamePairs (high_ring image) (outcome_ring image (λ s. has_started s.phase))

-- two outcomes agree on the movements that have x in their ranges
abbrev pub AgreeAt : Image → Replication → ℤ → (SeqRow → Bool) → (SeqRow → Bool) → Type 0
AgreeAt image replication x one other = AllByRecursion (λ s. in_ranges image replication s x ≡ true → one s ≡ other s) image.sequences

-- the placement at x on the ring of an outcome
abbrev pub placed_after : Image → Replication → ℤ → (SeqRow → Bool) → List ℕ
placed_after image replication x done = place (groups_of image.nodes replication) x (outcome_ring image done)

-- the nodes that are read are the placement after the outcome in which the movements at MID are done. The nodes that
-- are written are the placements after two outcomes: no movement is done, and the movements at STARTED or MID are done
pub record ArePlacedByOutcomes (image : Image) : Type 0 where
  pub reads : (r : Replication) (x : ℤ) → reads_at image r x ≡ placed_after image r x (λ s. is_mid s.phase)
  pub writes : (r : Replication) (x : ℤ) → writes_at image r x
      ≡ put_all nat_cmp (placed_after image r x (λ s. false)) (placed_after image r x (λ s. has_started s.phase))

-- the placement at x depends only on the movements that have x in their ranges
abbrev pub PlacedByRanges : Image → Type 0
PlacedByRanges image = (replication : Replication) (x : ℤ) (one other : SeqRow → Bool)
    → AgreeAt image replication x one other → placed_after image replication x one ≡ placed_after image replication x other

-- if the node of a movement has a movement after, x is in the ranges of both or of neither
abbrev pub KeepsAt : Image → Image → ℤ → Replication → SeqRow → Type 0
KeepsAt before after x r s = IfSome (movement_of after s.node) (λ q. in_ranges before r s x ≡ in_ranges after r q x)

-- under each keyspace, each movement that goes on keeps its ranges
abbrev pub KeepsRanges : Image → Image → Type 0
KeepsRanges before after = (x : ℤ) → IsToken x
    → AllByRecursion (λ k. AllByRecursion (KeepsAt before after x k.replication) before.sequences) before.keyspaces
