-- The deltas of a movement, which its plan holds, and that they stay exact while the movement lives.
use Rattle.std.specs.Prelude.{◌≡◌, ℕ, ◌+◌, ◌≤◌, false, ℤ, List, length, IsTrue}
use Rattle.std.specs.List.{AllByRecursion, Contains, list_any}
use Rattle.cluster_terms.specs.declared.replication.Replication.{Replication}
use Rattle.placement_deltas.specs.declared.delta_book.DeltaBookRow.{DeltaBookRow}
use Rattle.placement_deltas.specs.declared.plan.Plan.{Plan}
use Rattle.transformations.specs.MovementDeltas.{lives_through}
use Rattle.transformations.specs.History.{are_accepted, changes_keyspace, image_after, most_epochs}
use Rattle.transformations.specs.declared.command.Command.{Command}
use Rattle.transformations.specs.declared.image.Image.{Image}
use Rattle.transformations.specs.declared.keyspace.KeyspaceRow.{KeyspaceRow}
use Rattle.transformations.specs.declared.sequence.SeqRow.{SeqRow}
use Rattle.placement_deltas.specs.Replications.{replications_of}
use Rattle.placement_deltas.specs.ExactDeltas.{AreDeltas, IsExact, gained_by, lost_by, no_nodes}

-- the deltas of a movement's steps: a start adds the gained nodes to the writes, the step half way takes the lost nodes
-- from the reads and adds the gained ones, and a finish takes the lost nodes from the writes
pub record AreStepDeltas (image : Image) (s : SeqRow) (replications : List Replication) (gain swap lose : List DeltaBookRow) : Type 0 where
  pub gains : AreDeltas replications (gained_by image s) no_nodes gain
  pub swaps : AreDeltas replications (gained_by image s) (lost_by image s) swap
  pub loses : AreDeltas replications no_nodes (lost_by image s) lose

-- a plan has the deltas of its movement in an image; this speaks of every token and knows no rows, as the image after
-- other movements has other cuts
abbrev pub HasDeltas : Image → Plan → Type 0
HasDeltas image plan = AreStepDeltas image plan.row (replications_of image.keyspaces) plan.gain plan.swap plan.lose

-- under a replication the rows of a book are exact
abbrev pub AreExactUnder : Replication → (ℤ → List ℕ) → (ℤ → List ℕ) → List DeltaBookRow → Type 0
AreExactUnder r gained lost book = AllByRecursion (λ row. row.replication ≡ r → IsExact gained lost row.delta) book

-- under a replication a plan has the exact deltas of its movement in an image
pub record HasDeltasUnder (image : Image) (plan : Plan) (r : Replication) : Type 0 where
  pub gains : AreExactUnder r (gained_by image plan.row r) (no_nodes r) plan.gain
  pub swaps : AreExactUnder r (gained_by image plan.row r) (lost_by image plan.row r) plan.swap
  pub loses : AreExactUnder r (no_nodes r) (lost_by image plan.row r) plan.lose

-- they stay exact: after each list of accepted commands through which the movement lives, the plan has them still under
-- each keyspace that none of the commands sets or drops
abbrev pub StaysExact : Image → Plan → Type 0
StaysExact image plan = (commands : List Command) → IsTrue (are_accepted image commands) → image.epoch + length commands ≤ most_epochs
    → IsTrue (lives_through image plan.row.node commands) → (k : KeyspaceRow) → Contains image.keyspaces k
    → list_any (changes_keyspace k.name) commands ≡ false → HasDeltasUnder (image_after image commands) plan k.replication
