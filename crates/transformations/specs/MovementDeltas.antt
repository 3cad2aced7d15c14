-- The deltas of movements: the nodes that a movement adds to the replicas of a token, and those that it takes away.
use Rattle.std.specs.Prelude.{◌≡◌, ℕ, Bool, true, false, ◌&&◌, ℤ, List, [], ◌∷◌, Some, is_some, IfSome}
use Rattle.std.specs.List.{All, AllByRecursion, Contains, list_any}
use Rattle.cluster_terms.specs.Arc.{IsToken}
use Rattle.cluster_terms.specs.Group.{place}
use Rattle.cluster_terms.specs.IdSets.{without}
use Rattle.cluster_terms.specs.Replication.{groups_of}
use Rattle.cluster_terms.specs.Row.{is_within, last_token, rows_between}
use Rattle.cluster_terms.specs.declared.replication.Replication.{Replication}
use Rattle.cluster_terms.specs.declared.row.TokenRange.{TokenRange}
use Rattle.transformations.specs.History.{changes_keyspace, next_image}
use Rattle.transformations.specs.Rings.{cuts, low_ring, replaced}
use Rattle.transformations.specs.Movements.{movement_of}
use Rattle.transformations.specs.declared.command.Command.{Command}
use Rattle.transformations.specs.declared.image.Image.{Image}
use Rattle.transformations.specs.declared.keyspace.KeyspaceRow.{KeyspaceRow}
use Rattle.transformations.specs.declared.sequence.SeqRow.{SeqRow}

-- the nodes that are placed at a token on the low ring
unfoldable pub placed_before : Image → Replication → ℤ → List ℕ
placed_before image r x = place (groups_of image.nodes r) x (low_ring image)

-- the nodes that are placed at a token on the low ring with a movement applied to it
unfoldable pub placed_with : Image → Replication → SeqRow → ℤ → List ℕ
placed_with image r s x = place (groups_of image.nodes r) x (replaced (low_ring image) s.out_pairs s.in_pairs)

-- the nodes after that aren't among those before
abbrev pub newcomers : List ℕ → List ℕ → List ℕ
newcomers after before = without after before

-- the nodes that a movement adds at a token
abbrev pub gained_at : Image → Replication → SeqRow → ℤ → List ℕ
gained_at image r s x = newcomers (placed_with image r s x) (placed_before image r x)

-- the nodes that a movement takes away at a token
abbrev pub lost_at : Image → Replication → SeqRow → ℤ → List ℕ
lost_at image r s x = newcomers (placed_before image r x) (placed_with image r s x)

-- two movements take out the same pairs, and put in the same pairs
pub record MovesSame (s q : SeqRow) : Type 0 where
  pub outs : q.out_pairs ≡ s.out_pairs
  pub ins : q.in_pairs ≡ s.in_pairs

-- at a token, a movement before gains and loses what a movement after does
pub record SameDeltas (before after : Image) (r : Replication) (x : ℤ) (s q : SeqRow) : Type 0 where
  pub gained : gained_at before r s x ≡ gained_at after r q x
  pub lost : lost_at before r s x ≡ lost_at after r q x

-- if the node of a movement has a movement after, this gains and loses the same
abbrev pub KeepsDeltasAt : Image → Image → ℤ → Replication → SeqRow → Type 0
KeepsDeltasAt before after x r s = IfSome (movement_of after s.node) (SameDeltas before after r x s)

-- at each token, under each keyspace, each movement that goes on keeps its deltas
abbrev pub KeepsDeltas : Image → Image → Type 0
KeepsDeltas before after = (x : ℤ) → IsToken x
    → AllByRecursion (λ k. AllByRecursion (KeepsDeltasAt before after x k.replication) before.sequences) before.keyspaces

-- whether a node has a movement in an image, after each of some commands and so at the end
abbrev pub lives_through : Image → ℕ → List Command → Bool
lives_through image n [] = is_some (movement_of image n)
lives_through image n (c ∷ commands) = is_some (movement_of image n) && lives_through (next_image image c) n commands

-- a keyspace is in a later image too, and under it, at each token, a movement there gains and loses what a movement
-- before does
pub record SameUnder (before after : Image) (k : KeyspaceRow) (s q : SeqRow) : Type 0 where
  pub stays : Contains after.keyspaces k
  pub deltas : (x : ℤ) → IsToken x → SameDeltas before after k.replication x s q

-- a movement lives on in the image after some commands: its node has a movement there, which moves the same pairs, and
-- gains and loses the same under each keyspace that none of the commands sets or drops
pub record LivesOn (before after : Image) (commands : List Command) (s : SeqRow) : Type 0 where
  pub movement : SeqRow
  pub found : movement_of after s.node ≡ Some movement
  pub moves : MovesSame s movement
  pub deltas : (k : KeyspaceRow) → Contains before.keyspaces k → list_any (changes_keyspace k.name) commands ≡ false
      → SameUnder before after k s movement

-- a row stands for its tokens in the deltas of a movement: at each of them the same nodes are placed before the
-- movement, and the same with it, as at its last token
pub record StandsForDeltas (image : Image) (r : Replication) (s : SeqRow) (row : TokenRange) : Type 0 where
  pub before : (x : ℤ) → is_within x row ≡ true → placed_before image r x ≡ placed_before image r (last_token row.right)
  pub applied : (x : ℤ) → is_within x row ≡ true → placed_with image r s x ≡ placed_with image r s (last_token row.right)

-- each row between cuts stands for its tokens in the deltas of each movement, under every replication
abbrev pub RowsStandForDeltas : Image → Type 0
RowsStandForDeltas image = (r : Replication) → All (λ s. All (StandsForDeltas image r s) (rows_between (cuts image))) image.sequences
