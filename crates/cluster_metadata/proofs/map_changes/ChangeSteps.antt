-- What a change of each kind says of the movement at its position, and of the placements after it.
use Rattle.std.proofs.Common.{◌≡◌, ℕ, false, List, Option, Some, option_map, sym, subst}
use Rattle.std.specs.List.{slice_get}
use Rattle.cluster_terms.specs.declared.token.Pair.{Pair}
use Rattle.placement_deltas.specs.declared.plan.Plan.{Plan}
use Rattle.sequence_plans.specs.PlanDeltas.{HasDeltas}
use Rattle.transformations.specs.DeltaSteps.{cancel_delta, step_delta}
use Rattle.transformations.specs.Rings.{is_mid}
use Rattle.transformations.specs.declared.image.Image.{Image}
use Rattle.transformations.specs.declared.sequence.Goal.TheVariants as goal
use Rattle.transformations.specs.declared.sequence.Phase.{Phase}
use Rattle.transformations.specs.declared.sequence.Phase.TheVariants as phase
use Rattle.transformations.specs.declared.sequence.SeqRow.{SeqRow}
use Rattle.cluster_metadata.proofs.in_flight.MovementPlaces.{known_of, some_there}
use Rattle.cluster_metadata.specs.code.Change.{BringsPlan, Follows, StandsAt, changed}
use Rattle.cluster_metadata.specs.code.MapSteps.{MapSteps}
use Rattle.placement_maps.specs.code.Moves.{MovesAt, MovesBy, MovesOf, Stays, no_deltas}
use Rattle.cluster_metadata.specs.declared.changes.change.Change.{Change}
use Rattle.cluster_metadata.specs.declared.changes.change.Change.TheVariants.{Registered, Unregistered, Begun, Started, Mid, Finished, Ended, BroughtBack}
use Rattle.cluster_metadata.specs.declared.changes.left_row.LeftRow.{LeftRow}
use Rattle.cluster_metadata.specs.declared.changes.new_node.NewNode.{NewNode}

-- a movement at a position, of which something holds
pub record HasAt (rows : List SeqRow) (at : ℕ) (P : SeqRow → Type 0) : Type 0 where
  pub row : SeqRow
  pub here : slice_get rows at ≡ Some row
  pub holds : P row

-- a change of one node keeps the maps
module _ (image : Image) (change : Change) where
  pub registered_stays : (node : NewNode) → change ≡ Registered node → MapSteps image change → Stays image (changed image change)
  registered_stays node is steps = subst (λ c. MapSteps image c → Stays image (changed image c)) (sym is) (λ s. s) steps

  pub unregistered_stays : (n : ℕ) → change ≡ Unregistered n → MapSteps image change → Stays image (changed image change)
  unregistered_stays n is steps = subst (λ c. MapSteps image c → Stays image (changed image c)) (sym is) (λ s. s) steps

-- a movement of which something is known is there
has_at : {X : Type 0} (rows : List SeqRow) (at : ℕ) (f : SeqRow → X) (x : X) → option_map f (slice_get rows at) ≡ Some x → HasAt rows at (λ s. f s ≡ x)
has_at rows at f x known = some_there f x (slice_get rows at) known (HasAt rows at (λ s. f s ≡ x)) by
  where
    by : (s : SeqRow) → slice_get rows at ≡ Some s → HasAt rows at (λ s. f s ≡ x)
    by s here = record { row = s; here = here; holds = known_of f x (slice_get rows at) s known here }

module _ (image : Image) (change : Change) (at : ℕ) where
  -- the movement stands at this phase
  abbrev IsAt : Phase → Type 0
  IsAt p = HasAt image.sequences at (λ s. s.phase ≡ p)

  is_at : (p : Phase) → StandsAt image.sequences at p → IsAt p
  is_at p stands = has_at image.sequences at (λ s. s.phase) p stands

  pub started_at : change ≡ Started at → Follows image.sequences change → IsAt phase.Prepared
  started_at is follows = subst (λ c. Follows image.sequences c → IsAt phase.Prepared) (sym is) (is_at phase.Prepared) follows

  pub started_moves : change ≡ Started at → MapSteps image change → MovesAt image (changed image change) at (step_delta goal.Start)
  started_moves is steps = subst (λ c. MapSteps image c → MovesAt image (changed image c) at (step_delta goal.Start)) (sym is) (λ s. s) steps

  pub mid_at : change ≡ Mid at → Follows image.sequences change → IsAt phase.Started
  mid_at is follows = subst (λ c. Follows image.sequences c → IsAt phase.Started) (sym is) (is_at phase.Started) follows

  pub mid_moves : change ≡ Mid at → MapSteps image change → MovesAt image (changed image change) at (step_delta goal.Mid)
  mid_moves is steps = subst (λ c. MapSteps image c → MovesAt image (changed image c) at (step_delta goal.Mid)) (sym is) (λ s. s) steps

  pub back_at : change ≡ BroughtBack at → Follows image.sequences change → IsAt phase.Mid
  back_at is follows = subst (λ c. Follows image.sequences c → IsAt phase.Mid) (sym is) (is_at phase.Mid) follows

  pub back_moves : change ≡ BroughtBack at → MapSteps image change → MovesAt image (changed image change) at (cancel_delta phase.Mid)
  back_moves is steps = subst (λ c. MapSteps image c → MovesAt image (changed image c) at (cancel_delta phase.Mid)) (sym is) (λ s. s) steps

  pub ended_at : change ≡ Ended at → Follows image.sequences change → HasAt image.sequences at (λ s. is_mid s.phase ≡ false)
  ended_at is follows =
      subst (λ c. Follows image.sequences c → HasAt image.sequences at (λ s. is_mid s.phase ≡ false)) (sym is) (has_at image.sequences at (λ s. is_mid s.phase) false) follows

  pub ended_moves : change ≡ Ended at → MapSteps image change → MovesOf image (changed image change) at (λ s. cancel_delta s.phase)
  ended_moves is steps = subst (λ c. MapSteps image c → MovesOf image (changed image c) at (λ s. cancel_delta s.phase)) (sym is) (λ s. s) steps

  module _ (rows : List SeqRow) where
    pub begun_moves : (plan : Plan) → change ≡ Begun at plan rows → MapSteps image change → MovesBy image (changed image change) no_deltas
    begun_moves plan is steps = subst (λ c. MapSteps image c → MovesBy image (changed image c) no_deltas) (sym is) (λ s. s) steps

    pub begun_deltas : (plan : Plan) → change ≡ Begun at plan rows → BringsPlan image change → HasDeltas (changed image change) plan
    begun_deltas plan is brings = subst (λ (ch : Change). HasDeltas (changed image ch) plan) (sym is) (subst (BringsPlan image) is brings).0

  module _ (left : Option LeftRow) (tokens : List Pair) where
    pub finished_at : change ≡ Finished at left tokens → Follows image.sequences change → IsAt phase.Mid
    finished_at is follows = subst (λ c. Follows image.sequences c → IsAt phase.Mid) (sym is) (is_at phase.Mid) follows

    pub finished_moves : change ≡ Finished at left tokens → MapSteps image change → MovesOf image (changed image change) at (λ s. step_delta goal.Finish)
    finished_moves is steps = subst (λ c. MapSteps image c → MovesOf image (changed image c) at (λ s. step_delta goal.Finish)) (sym is) (λ s. s) steps
