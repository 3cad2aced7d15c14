-- The movements in flight, each as a value of its phase.
-- Of the code: the invariant of `Metadata` is made of these.
use Rattle.std.specs.Prelude.{◌≡◌, ℕ, List, map}
use Rattle.std.specs.List.{AllByRecursion}
use Rattle.placement_deltas.specs.declared.plan.Plan.{Plan}
use Rattle.sequence_plans.specs.PlanDeltas.{HasDeltas}
use Rattle.transformations.specs.declared.image.Image.{Image}
use Rattle.transformations.specs.declared.sequence.Phase.{Phase}
use Rattle.transformations.specs.declared.sequence.Phase.TheVariants as phase
use Rattle.transformations.specs.declared.sequence.SeqRow.{SeqRow}
use Rattle.cluster_metadata.specs.code.Change.{in_phase}
use Rattle.cluster_metadata.specs.declared.movements.running.Running.{Running}
use Rattle.cluster_metadata.specs.declared.movements.running.Running.TheVariants.{Prepared, Started, Mid}

-- the plan of a movement in flight
abbrev pub plan_of : Running → Plan
plan_of (Prepared s) = s
plan_of (Started s) = s
plan_of (Mid s) = s

-- its node
abbrev pub moving_node : Running → ℕ
moving_node m = (plan_of m).row.node

-- the phase of its type
abbrev pub phase_of : Running → Phase
phase_of (Prepared s) = phase.Prepared
phase_of (Started s) = phase.Started
phase_of (Mid s) = phase.Mid

-- the phase to which a movement goes on; one at MID goes back
abbrev pub phase_after : Phase → Phase
phase_after phase.Prepared = phase.Started
phase_after phase.Started = phase.Mid
phase_after phase.Mid = phase.Started

-- its row: the plan's row, at its phase
abbrev pub movement_row : Running → SeqRow
movement_row m = in_phase (phase_of m) (plan_of m).row

-- the values are those of the movements, in their order
abbrev pub IsRunning : List SeqRow → List Running → Type 0
IsRunning rows running = map movement_row running ≡ rows

-- each value's plan has the deltas of its movement in an image
abbrev pub HaveDeltas : Image → List Running → Type 0
HaveDeltas image running = AllByRecursion (λ m. HasDeltas image (plan_of m)) running
