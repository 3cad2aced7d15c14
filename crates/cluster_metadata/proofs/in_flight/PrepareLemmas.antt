-- The movement that an accepted command prepares, and the change that it makes.
use Rattle.std.proofs.Common.{◌≡◌, true, false, ◌==◌, Result, Ok, Err, IfOk, Some, None, ap, sym, ◌∙◌}
use Rattle.std.proofs.lemmas.Option.{none-some}
use Rattle.std.specs.List.{AllByRecursion}
use Rattle.transformations.proofs.movements.BeginLemmas.{begin_new, may_begin}
use Rattle.transformations.specs.History.{begun, is_command, next_image}
use Rattle.transformations.specs.Meeting.{HasReplication}
use Rattle.transformations.specs.Refusals.{early_refusal_of, prepared_by}
use Rattle.transformations.specs.Valid.{IsSound}
use Rattle.transformations.specs.declared.command.Command.{Command}
use Rattle.transformations.specs.declared.command.Command.TheVariants.{Register, Unregister, UnsafeJoin, Keyspace, DropKeyspace, PrepareJoin, PrepareMove, PrepareLeave, PrepareReplace, Step, Cancel}
use Rattle.transformations.specs.declared.image.Image.{Image}
use Rattle.transformations.specs.declared.sequence.SeqRow.{SeqRow}
use Rattle.cluster_metadata.specs.code.Change.{Begins, BeginsWith, FitsNodes, IsChange, Suits}
use Rattle.cluster_metadata.specs.declared.changes.change.Change.{Change}
use Rattle.cluster_metadata.specs.declared.changes.change.Change.TheVariants.{Begun}

-- its node has no other movement
pub prepared_new : (image : Image) (c : Command) (row : SeqRow) → IsSound image → is_command c ≡ true → early_refusal_of image c ≡ None → prepared_by image.tokens c ≡ Some row
    → AllByRecursion (λ (s : SeqRow). (s.node == row.node) ≡ false) image.sequences
prepared_new image c row sound formed early h = begin_new image row (may_begin image c row sound formed early h)

-- the command begins it
pub prepared_begun : (image : Image) (c : Command) (row : SeqRow) → prepared_by image.tokens c ≡ Some row → begun image row ≡ next_image image c
unfolding next_image
prepared_begun image (PrepareJoin n tokens) row h = ap (begun image) (sym (cc h))
prepared_begun image (PrepareMove n t) row h = ap (begun image) (sym (cc h))
prepared_begun image (PrepareLeave n) row h = ap (begun image) (sym (cc h))
prepared_begun image (PrepareReplace n gone) row h = ap (begun image) (sym (cc h))
prepared_begun image (Register name dc rack) row h = absurd (none-some row h)
prepared_begun image (Unregister n) row h = absurd (none-some row h)
prepared_begun image (UnsafeJoin n tokens) row h = absurd (none-some row h)
prepared_begun image (Keyspace name replication) row h = absurd (none-some row h)
prepared_begun image (DropKeyspace name) row h = absurd (none-some row h)
prepared_begun image (Step g kind n) row h = absurd (none-some row h)
prepared_begun image (Cancel n) row h = absurd (none-some row h)

-- a change that begins it changes no node
begins_fitting : (image : Image) (row : SeqRow) (change : Change) → BeginsWith row change → FitsNodes image change
begins_fitting image row (Begun at plan after) begins = tt
begins_fitting image row _ begins = absurd begins

-- so a change that begins it is the command's
begins_with : (image : Image) (c : Command) (row : SeqRow) → prepared_by image.tokens c ≡ Some row → (change : Change) → BeginsWith row change → Suits image c change
begins_with image c row h (Begun at plan after) begins = h ∙ ap (λ (s : SeqRow). Some s) (sym begins)
begins_with image c row h _ begins = absurd begins

pub prepares : (image : Image) (c : Command) (row : SeqRow) → prepared_by image.tokens c ≡ Some row → {E : Type 0} (result : Result Change E) → IfOk result (Begins image row) → IfOk result (IsChange image c)
prepares image c row h (Ok change) begin =
    record {
      made = begin.made ∙ prepared_begun image c row h;
      nodes = begins_fitting image row change begin.begins;
      follows = begin.follows;
      plan = begin.plan;
      suits = begins_with image c row h change begin.begins;
    }
prepares image c row h (Err e) begin = begin

-- and it makes no keyspace
pub prepared_replicated : (image : Image) (c : Command) (row : SeqRow) → prepared_by image.tokens c ≡ Some row → HasReplication c
prepared_replicated image (Keyspace name replication) row h = absurd (none-some row h)
prepared_replicated image _ row h = tt
