-- How the placements move from an image to another.
use Rattle.std.specs.Prelude.{◌≡◌, ℕ, ℤ, List, Some}
use Rattle.std.specs.List.{AllByRecursion, slice_get}
use Rattle.cluster_terms.specs.Arc.{IsToken}
use Rattle.cluster_terms.specs.declared.replication.Replication.{Replication}
use Rattle.placement_deltas.specs.Replications.{replications_of}
use Rattle.transformations.specs.DeltaSteps.{AreChanged, PlacementDelta, no_changes}
use Rattle.transformations.specs.MovementDeltas.{gained_at, lost_at}
use Rattle.transformations.specs.Rings.{cuts}
use Rattle.transformations.specs.declared.image.Image.{Image}
use Rattle.transformations.specs.declared.sequence.SeqRow.{SeqRow}

-- the keyspaces stay, and under each of their replications the reads and writes of each token change by its delta
pub record MovesBy (before after : Image) (delta : Replication → ℤ → PlacementDelta) : Type 0 where
  pub keyspaces : after.keyspaces ≡ before.keyspaces
  pub changes : AllByRecursion (λ r. (x : ℤ) → IsToken x → AreChanged before after r x (delta r x)) (replications_of before.keyspaces)

-- no delta
abbrev pub no_deltas : Replication → ℤ → PlacementDelta
no_deltas r x = no_changes

-- the deltas of a movement
abbrev pub deltas_of : (List ℕ → List ℕ → PlacementDelta) → Image → SeqRow → Replication → ℤ → PlacementDelta
deltas_of delta image s r x = delta (gained_at image r s x) (lost_at image r s x)

-- reads and writes change by such deltas of the movement at this position
abbrev pub MovesOf : Image → Image → ℕ → (SeqRow → List ℕ → List ℕ → PlacementDelta) → Type 0
MovesOf before after at delta = (s : SeqRow) → slice_get before.sequences at ≡ Some s → MovesBy before after (deltas_of (delta s) before s)

-- reads and writes change by such deltas of the movement at this position, and the cuts stay
pub record MovesAt (before after : Image) (at : ℕ) (delta : List ℕ → List ℕ → PlacementDelta) : Type 0 where
  pub moves : MovesOf before after at (λ s. delta)
  pub cuts : cuts after ≡ cuts before

-- the reads, the writes and the cuts stay
abbrev pub Stays : Image → Image → Type 0
Stays before after = MovesBy before after no_deltas × (cuts after ≡ cuts before)
