-- The changes that commands make in an image.
use Rattle.std.specs.Prelude.{◌≡◌, ℕ, zero, suc, ◌+◌, ◌≤◌, Bool, true, false, List, [], ◌∷◌, ◌++◌, length, map, Some, option_map, IfSome, IsSome}
use Rattle.std.specs.List.{AllByRecursion, AllPairs, insert, remove, slice_get}
use Rattle.cluster_terms.specs.NodeRow.{row_of}
use Rattle.locked_ranges.specs.Sharing.{ShareNoToken}
use Rattle.locked_ranges.specs.Table.{lock_row}
use Rattle.token_ring.specs.declared.range_book.LockRow.{LockRow}
use Rattle.sequence_plans.specs.Locks.{AreLocksOf, IsLockOf}
use Rattle.node_directory.specs.Directory.{other_rows}
use Rattle.placement_deltas.specs.declared.plan.Plan.{Plan}
use Rattle.sequence_plans.specs.Plan.{AreLocks}
use Rattle.sequence_plans.specs.PlanDeltas.{HasDeltas}
use Rattle.transformations.specs.History.{begun, next_image}
use Rattle.transformations.specs.Refusals.{prepared_by}
use Rattle.transformations.specs.Rings.{is_mid}
use Rattle.transformations.specs.Movements.{movement_of}
use Rattle.transformations.specs.declared.command.Command.{Command}
use Rattle.transformations.specs.declared.command.Command.TheVariants.{Register, Unregister, UnsafeJoin, Keyspace, DropKeyspace, Step, Cancel}
use Rattle.transformations.specs.declared.image.Image.{Image}
use Rattle.transformations.specs.declared.keyspace.KeyspaceRow.{KeyspaceRow}
use Rattle.transformations.specs.declared.sequence.Goal.TheVariants as goal
use Rattle.transformations.specs.declared.sequence.Phase.{Phase}
use Rattle.transformations.specs.declared.sequence.Phase.TheVariants as phase
use Rattle.transformations.specs.declared.sequence.SeqRow.{SeqRow}
use Rattle.cluster_metadata.specs.code.Nodes.{IsLeftRow, IsNew, nodes_left}
use Rattle.cluster_metadata.specs.declared.changes.change.Change.{Change}
use Rattle.cluster_metadata.specs.declared.movements.renewing.Renewed.{Renewed}
use Rattle.cluster_metadata.specs.declared.changes.change.Change.TheVariants.{Unchanged, Registered, Unregistered, Tokens, Keyspaces, Begun, Started, Mid, Finished, Ended, BroughtBack}

-- a movement at another phase
abbrev pub in_phase : Phase → SeqRow → SeqRow
in_phase p row = record row { phase = p }

-- the movements, with the one at this position at another phase
abbrev pub phased : List SeqRow → ℕ → Phase → List SeqRow
phased [] at p = []
phased (s ∷ rows) zero p = in_phase p s ∷ rows
phased (s ∷ rows) (suc at) p = s ∷ phased rows at p

-- the image of the next epoch, with these keyspaces
abbrev pub rekeyed : Image → List KeyspaceRow → Image
rekeyed image keyspaces = record image { epoch = image.epoch + 1; keyspaces = keyspaces }

-- the image after a change; each change adds one epoch
abbrev pub changed : Image → Change → Image
changed image Unchanged = record image { epoch = image.epoch + 1 }
changed image (Registered node) = record image { epoch = image.epoch + 1; next = node.next; nodes = image.nodes ++ node.row ∷ [] }
changed image (Unregistered n) = record image { epoch = image.epoch + 1; nodes = other_rows image.nodes n }
changed image (Tokens tokens) = record image { epoch = image.epoch + 1; tokens = tokens }
changed image (Keyspaces keyspaces renewed) = rekeyed image keyspaces
changed image (Begun at plan sequences) = record image { epoch = image.epoch + 1; sequences = sequences }
changed image (Started at) = record image { epoch = image.epoch + 1; sequences = phased image.sequences at phase.Started }
changed image (Mid at) = record image { epoch = image.epoch + 1; sequences = phased image.sequences at phase.Mid }
changed image (Finished at left tokens) =
    record image { epoch = image.epoch + 1; nodes = nodes_left image.nodes left; tokens = tokens; sequences = remove image.sequences at }
changed image (Ended at) = record image { epoch = image.epoch + 1; sequences = remove image.sequences at }
changed image (BroughtBack at) = record image { epoch = image.epoch + 1; sequences = phased image.sequences at phase.Started }

-- the movement at this position is at this phase
abbrev pub StandsAt : List SeqRow → ℕ → Phase → Type 0
StandsAt rows at p = option_map (λ s. s.phase) (slice_get rows at) ≡ Some p

-- the movement at this position isn't half way
abbrev pub StandsBeforeMid : List SeqRow → ℕ → Type 0
StandsBeforeMid rows at = option_map (λ s. is_mid s.phase) (slice_get rows at) ≡ Some false

-- a change fits the movements in flight before it. New plans have their rows, in their order. The row of a new
-- movement's plan is inserted at its position. A movement that takes a step is at the phase before; one that goes back
-- or is finished is at MID, and one that is given up isn't
abbrev pub Follows : List SeqRow → Change → Type 0
Follows before (Keyspaces keyspaces renewed) = map (λ p. p.row) renewed.plans.items ≡ map (in_phase phase.Prepared) before
Follows before (Begun at plan after) = (plan.row.phase ≡ phase.Prepared) × (at ≤ length before) × (after ≡ insert before at plan.row)
Follows before (Started at) = StandsAt before at phase.Prepared
Follows before (Mid at) = StandsAt before at phase.Started
Follows before (Finished at left tokens) = StandsAt before at phase.Mid
Follows before (Ended at) = StandsBeforeMid before at
Follows before (BroughtBack at) = StandsAt before at phase.Mid
Follows before _ = Unit {0}

-- a change fits the nodes before it: a node that is registered is new, and a node that is removed or leaves is
-- registered
abbrev pub FitsNodes : Image → Change → Type 0
FitsNodes image (Registered node) = IsNew image.nodes image.next node
FitsNodes image (Unregistered n) = IsSome (row_of image.nodes n)
FitsNodes image (Finished at left tokens) = IfSome left (IsLeftRow image.nodes)
FitsNodes image _ = Unit {0}

-- the lock that a plan takes
abbrev pub plan_lock : Plan → LockRow
plan_lock plan = lock_row plan.row.node plan.ranges

-- plans and locks are those of the movements of an image
pub record AreReplanned (image : Image) (renewed : Renewed) : Type 0 where
  pub rows : map (λ p. p.row) renewed.plans.items ≡ map (in_phase phase.Prepared) image.sequences
  pub deltas : AllByRecursion (HasDeltas image) renewed.plans.items
  pub locks : AreLocks image image.sequences renewed.locks

-- plans and locks are those of the movements of an image, and no two locks share a token
pub record AreRenewed (image : Image) (renewed : Renewed) : Type 0 where
  pub rows : map (λ p. p.row) renewed.plans.items ≡ map (in_phase phase.Prepared) image.sequences
  pub deltas : AllByRecursion (HasDeltas image) renewed.plans.items
  pub locks : AreLocksOf image image.sequences renewed.locks
  pub apart : AllPairs (λ one other. ShareNoToken one.ranges other.ranges) renewed.locks

-- the plan of a new movement has its deltas and its ranges, in the image that the change leads to; and so have the
-- plans that new keyspaces bring
abbrev pub BringsPlan : Image → Change → Type 0
BringsPlan image (Keyspaces keyspaces renewed) = AreRenewed (rekeyed image keyspaces) renewed
BringsPlan image (Begun at plan after) =
    HasDeltas (changed image (Begun at plan after)) plan
    × IsLockOf (changed image (Begun at plan after)) plan.row (plan_lock plan)
BringsPlan image _ = Unit {0}

-- the movement of a node stands at this position
abbrev pub IsMovementAt : Image → ℕ → ℕ → Type 0
IsMovementAt image n at = slice_get image.sequences at ≡ movement_of image n

-- the kind of change that a command makes. A movement that begins is the one that the command prepares, and a movement
-- that a step or a cancel changes is that of its node
abbrev pub Suits : Image → Command → Change → Type 0
Suits image c (Begun at plan after) = prepared_by image.tokens c ≡ Some plan.row
Suits image (Register name dc rack) (Registered node) = Unit {0}
Suits image (Unregister n) (Unregistered m) = Unit {0}
Suits image (UnsafeJoin n tokens) (Tokens pairs) = Unit {0}
Suits image (Keyspace name r) (Keyspaces rows renewed) = Unit {0}
Suits image (Keyspace name r) Unchanged = Unit {0}
Suits image (DropKeyspace name) (Keyspaces rows renewed) = Unit {0}
Suits image (Step goal.Start kind n) (Started at) = IsMovementAt image n at
Suits image (Step goal.Mid kind n) (Mid at) = IsMovementAt image n at
Suits image (Step goal.Finish kind n) (Finished at left tokens) = IsMovementAt image n at
Suits image (Cancel n) (Ended at) = IsMovementAt image n at
Suits image (Cancel n) (BroughtBack at) = IsMovementAt image n at
Suits image _ _ = ⊥

-- a change is the change of this command
pub record IsChange (image : Image) (command : Command) (change : Change) : Type 0 where
  pub made : changed image change ≡ next_image image command
  pub nodes : FitsNodes image change
  pub follows : Follows image.sequences change
  pub plan : BringsPlan image change
  pub suits : Suits image command change

-- a change begins a movement with this row
abbrev pub BeginsWith : SeqRow → Change → Type 0
BeginsWith row (Begun at plan after) = plan.row ≡ row
BeginsWith row _ = ⊥

-- a change begins the movement of this row in an image, with its plan
pub record Begins (image : Image) (row : SeqRow) (change : Change) : Type 0 where
  pub made : changed image change ≡ begun image row
  pub follows : Follows image.sequences change
  pub plan : BringsPlan image change
  pub begins : BeginsWith row change

-- a plan without its ranges, which the lock takes, and without its cuts, which nothing needs once its movement has
-- begun
abbrev pub kept_plan : Plan → Plan
kept_plan plan = record plan { cuts = []; ranges = [] }

-- the plans of the movements in flight after a change, from those before it
abbrev pub plans_after : List Plan → Change → List Plan
plans_after plans (Keyspaces keyspaces renewed) = renewed.plans.items
plans_after plans (Begun at plan sequences) = insert plans at (kept_plan plan)
plans_after plans (Finished at left tokens) = remove plans at
plans_after plans (Ended at) = remove plans at
plans_after plans _ = plans

-- a change brings neither a node nor a movement nor a plan
abbrev pub BringsNothing : Change → Type 0
BringsNothing (Registered node) = ⊥
BringsNothing (Keyspaces keyspaces renewed) = ⊥
BringsNothing (Begun at plan sequences) = ⊥
BringsNothing _ = Unit {0}

-- a change leads to these keyspaces, with new plans and locks
abbrev pub BringsKeyspaces : Image → List KeyspaceRow → Change → Type 0
BringsKeyspaces image rows (Keyspaces keyspaces renewed) = (keyspaces ≡ rows) × AreRenewed (rekeyed image keyspaces) renewed
BringsKeyspaces image rows _ = ⊥

-- a change leads to these keyspaces
abbrev pub ChangesTo : List KeyspaceRow → Change → Type 0
ChangesTo rows (Keyspaces keyspaces renewed) = keyspaces ≡ rows
ChangesTo rows _ = ⊥

-- whether a command sets or drops a keyspace
abbrev pub is_on_keyspaces : Command → Bool
is_on_keyspaces (Keyspace name r) = true
is_on_keyspaces (DropKeyspace name) = true
is_on_keyspaces _ = false

-- how many movements there are after a change that begins one; 0 for other changes
abbrev pub grown_to : Change → ℕ
grown_to (Begun at plan sequences) = length sequences
grown_to _ = 0
