-- How commands change the nodes that are read and written: by the deltas of their movement (CEP-21's placement deltas,
-- one for each step).
use Rattle.std.specs.Prelude.{◌≡◌, ℕ, true, ℤ, List, [], Option, Some, None}
use Rattle.std.specs.List.{AllByRecursion}
use Rattle.cluster_terms.specs.Arc.{IsToken}
use Rattle.cluster_terms.specs.IdSets.{with_change}
use Rattle.cluster_terms.specs.declared.replication.Replication.{Replication}
use Rattle.transformations.specs.MovementDeltas.{gained_at, lost_at}
use Rattle.transformations.specs.History.{next_image}
use Rattle.transformations.specs.Meeting.{makes_movement_epoch}
use Rattle.transformations.specs.Rings.{reads_at, writes_at}
use Rattle.transformations.specs.Movements.{movement_of}
use Rattle.transformations.specs.declared.command.Command.{Command}
use Rattle.transformations.specs.declared.command.Command.TheVariants.{Step, Cancel}
use Rattle.transformations.specs.declared.image.Image.{Image}
use Rattle.transformations.specs.declared.sequence.Goal.{Goal}
use Rattle.transformations.specs.declared.sequence.Goal.TheVariants as goal
use Rattle.transformations.specs.declared.sequence.Phase.{Phase}
use Rattle.transformations.specs.declared.sequence.Phase.TheVariants.{Prepared, Started, Mid}
use Rattle.transformations.specs.declared.sequence.SeqRow.{SeqRow}

-- the nodes that a set gains, and those that it loses
pub record SetDelta : Type 0 where
  pub gained : List ℕ
  pub lost : List ℕ

-- what the reads and what the writes of a token gain and lose
pub record PlacementDelta : Type 0 where
  pub reads : SetDelta
  pub writes : SetDelta

-- a set without the nodes that it loses, and with those that it gains; a `SetDelta` stands in the place of two lists
abbrev pub with_delta : List ℕ → SetDelta → List ℕ
with_delta nodes delta = with_change nodes delta.gained delta.lost

-- the delta of a set that gains and loses nothing
abbrev pub no_change : SetDelta
no_change = record { gained = []; lost = [] }

-- the delta of a token whose reads and writes stay
abbrev pub no_changes : PlacementDelta
no_changes = record { reads = no_change; writes = no_change }

-- the delta of a set, with the nodes gained and the nodes lost exchanged
abbrev pub inverse : SetDelta → SetDelta
inverse delta = record { gained = delta.lost; lost = delta.gained }

-- the delta of a token, with this exchange in its reads and in its writes
abbrev pub inverses : PlacementDelta → PlacementDelta
inverses delta = record { reads = inverse delta.reads; writes = inverse delta.writes }

-- the delta of a step, for a movement that gains and loses these nodes: a start adds to the writes, the step half way
-- moves the reads, and a finish removes from the writes
abbrev pub step_delta : Goal → List ℕ → List ℕ → PlacementDelta
step_delta goal.Start gained lost = record { reads = no_change; writes = record { gained = gained; lost = [] } }
step_delta goal.Mid gained lost = record { reads = record { gained = gained; lost = lost }; writes = no_change }
step_delta goal.Finish gained lost = record { reads = no_change; writes = record { gained = []; lost = lost } }

-- the delta of a cancel of a movement at this phase: the inverse of the delta of the step that led to the phase.
-- No step leads to PREPARED, so nothing changes there
abbrev pub cancel_delta : Phase → List ℕ → List ℕ → PlacementDelta
cancel_delta Prepared gained lost = no_changes
cancel_delta Started gained lost = inverses (step_delta goal.Start gained lost)
cancel_delta Mid gained lost = inverses (step_delta goal.Mid gained lost)

-- such a delta at a token, for a movement of the image, if there is one
abbrev pub delta_of_movement : (SeqRow → List ℕ → List ℕ → PlacementDelta) → Image → Replication → ℤ → Option SeqRow → PlacementDelta
delta_of_movement delta image r x None = no_changes
delta_of_movement delta image r x (Some s) = delta s (gained_at image r s x) (lost_at image r s x)

-- the delta of a command at a token; only steps and cancels change what is read and written. It speaks of one token, so
-- the law that deltas act knows no plan. That the kept plan has these deltas is the invariant of `Metadata`
abbrev pub delta_of_command : Image → Command → Replication → ℤ → PlacementDelta
delta_of_command image (Step goal kind node) r x = delta_of_movement (λ s. step_delta goal) image r x (movement_of image node)
delta_of_command image (Cancel node) r x = delta_of_movement (λ s. cancel_delta s.phase) image r x (movement_of image node)
delta_of_command image _ r x = no_changes

-- the reads and the writes of a token after are those before, changed by a delta
pub record AreChanged (before after : Image) (r : Replication) (x : ℤ) (delta : PlacementDelta) : Type 0 where
  pub reads : reads_at after r x ≡ with_delta (reads_at before r x) delta.reads
  pub writes : writes_at after r x ≡ with_delta (writes_at before r x) delta.writes

-- a command changes the reads and the writes by its delta, at each token and under each keyspace for which it makes a
-- movement epoch
abbrev pub ChangesByDeltas : Image → Command → Type 0
ChangesByDeltas image c = (x : ℤ) → IsToken x
    → AllByRecursion (λ k. makes_movement_epoch k.name c ≡ true → AreChanged image (next_image image c) k.replication x (delta_of_command image c k.replication x)) image.keyspaces
