-- How a command changes the reads, the writes and the cuts, and where the deltas of movements change from token to
-- token.
use Rattle.std.specs.Prelude.{◌≡◌, true, ℤ, pos, ◌+ℤ◌}
use Rattle.std.specs.List.{AllByRecursion}
use Rattle.cluster_terms.specs.Arc.{IsToken}
use Rattle.cluster_terms.specs.declared.replication.Replication.{Replication}
use Rattle.transformations.specs.CutSteps.{CutsChange, ended_by}
use Rattle.transformations.specs.DeltaSteps.{AreChanged, delta_of_command}
use Rattle.transformations.specs.Meeting.{makes_movement_epoch}
use Rattle.transformations.specs.MovementDeltas.{gained_at, lost_at}
use Rattle.transformations.specs.Refusals.{prepared_by}
use Rattle.transformations.specs.declared.command.Command.{Command}
use Rattle.transformations.specs.declared.image.Image.{Image}
use Rattle.transformations.specs.declared.sequence.SeqRow.{SeqRow}

-- at each token and under each keyspace for which a command makes a movement epoch, the reads and the writes after it
-- are those before, changed by its delta
abbrev pub ActsByDelta : Image → Image → Command → Type 0
ActsByDelta before after c = (x : ℤ) → IsToken x
    → AllByRecursion (λ k. makes_movement_epoch k.name c ≡ true → AreChanged before after k.replication x (delta_of_command before c k.replication x)) before.keyspaces

-- the cuts change by the movement that the command begins, or by the movement that it ends, and stay if it does neither
abbrev pub CutsMove : Image → Image → Command → Type 0
CutsMove before after c = CutsChange before after (prepared_by before.tokens c) (ended_by before c)

-- a movement gains the same nodes at a token and at the token after it, and loses the same
pub record DeltasSameAcross (image : Image) (r : Replication) (s : SeqRow) (t : ℤ) : Type 0 where
  pub gained : gained_at image r s t ≡ gained_at image r s (t +ℤ pos 1)
  pub lost : lost_at image r s t ≡ lost_at image r s (t +ℤ pos 1)
