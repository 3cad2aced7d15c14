-- What an accepted step says of the movements, and the changes that steps make.
use Rattle.std.proofs.Common.{◌≡◌, ℕ, ◌+◌, ◌<◌, ◌≤◌, Bool, true, false, not, true≢false, ◌&&◌, ◌==◌, List, [], ◌∷◌, length, map, get_or, Option, Some, None, IfSome, IsSome, is_some, option_map, option_and_then, refl, sym, ap, ◌∙◌, subst}
use Rattle.std.proofs.lemmas.Bool.Decides.{Decides-eqb}
use Rattle.std.specs.List.{insert, remove, slice_get}
use Rattle.std.specs.List.Sorted.{IsStrictlySortedBy}
use Rattle.cluster_terms.specs.Ascending.{put}
use Rattle.cluster_terms.specs.declared.node.NodeRow.{NodeRow}
use Rattle.cluster_terms.specs.declared.token.Pair.{Pair}
use Rattle.placement_deltas.specs.declared.plan.Plan.{Plan}
use Rattle.sequence_plans.specs.PlanDeltas.{HasDeltas}
use Rattle.transformations.proofs.commands.AcceptedLemmas.{first_none, test_false}
use Rattle.transformations.proofs.lists.ListLemmas.{found_passes}
use Rattle.transformations.specs.History.{next_image}
use Rattle.transformations.specs.Orders.{by_node}
use Rattle.transformations.specs.Refusals.{with_movement, early_refusal_of, no_node, no_sequence, unless_next, wrong_step}
use Rattle.transformations.specs.Movements.{at_phase, finished, is_next_step, leaver, movement_of, others, phase_before, ring_after, same_kind, same_phase, with_left}
use Rattle.transformations.specs.declared.command.Command.TheVariants.{Step}
use Rattle.transformations.specs.declared.image.Image.{Image}
use Rattle.transformations.specs.declared.refusal.Refusal.TheVariants.{NoSequence, WrongStep}
use Rattle.transformations.specs.declared.sequence.Goal.{Goal}
use Rattle.transformations.specs.declared.sequence.Goal.TheVariants as goal
use Rattle.transformations.specs.declared.sequence.Kind.{Kind}
use Rattle.transformations.specs.declared.sequence.Phase.{Phase}
use Rattle.transformations.specs.declared.sequence.Phase.TheVariants as phase
use Rattle.transformations.specs.declared.sequence.SeqRow.{SeqRow}
use Rattle.cluster_metadata.proofs.in_flight.PlanLemmas.{deltas_elsewhere}
use Rattle.cluster_metadata.proofs.in_flight.MovementPlaces.{at_index, others_at, stepped_at}
use Rattle.cluster_metadata.specs.code.Change.{Begins, IsChange, StandsAt, phased, plan_lock}
use Rattle.sequence_plans.specs.Locks.{IsLockOf}
use Rattle.cluster_metadata.proofs.locks.LocksKept.{lock_later}
use Rattle.cluster_metadata.specs.code.Nodes.{IsLeftRow, nodes_left}
use Rattle.cluster_metadata.specs.declared.changes.change.Change.TheVariants.{Begun, Started, Mid, Finished}
use Rattle.cluster_metadata.specs.declared.changes.left_row.LeftRow.{LeftRow}

-- ---- where no refusal comes

pub negated : (b : Bool) → not b ≡ false → b ≡ true
negated true h = refl
negated false h = absurd (true≢false h)

facts : (image : Image) (g : Goal) (kind : Kind) (n : ℕ) → early_refusal_of image (Step g kind n) ≡ None → (no_sequence image n ≡ None) × (wrong_step g kind image n ≡ None)
unfolding early_refusal_of
facts image g kind n h =
    let a = first_none (no_node image n) (no_sequence image n ∷ wrong_step g kind image n ∷ []) h in
    let b = first_none (no_sequence image n) (wrong_step g kind image n ∷ []) a.1 in
    let c = first_none (wrong_step g kind image n) [] b.1 in
    (b.0, c.0)

-- ---- a movement that begins

pub begins : (image : Image) (at : ℕ) (plan : Plan) (after : List SeqRow) → plan.row.phase ≡ phase.Prepared → at ≤ length image.sequences → after ≡ insert image.sequences at plan.row
    → put by_node plan.row image.sequences ≡ insert image.sequences at plan.row → HasDeltas image plan → IsLockOf (with_movement image plan.row) plan.row (plan_lock plan)
    → Begins image plan.row (Begun at plan after)
begins image at plan after prepared within made place deltas lock =
    let with_rows : List SeqRow → Image = λ rows. record image { epoch = image.epoch + 1; sequences = rows } in
    let later = lock_later (with_movement image plan.row) (image.epoch + 1) plan.row (plan_lock plan) lock in
    record {
      made = ap with_rows (made ∙ sym place);
      follows = (prepared, within, made);
      plan = (
        deltas_elsewhere image (image.epoch + 1) after plan deltas,
        subst (λ rows. IsLockOf (with_rows rows) plan.row (plan_lock plan)) (place ∙ sym made) later,
      );
      begins = refl;
    }

-- ---- the movement that takes a step

-- a step is accepted only where the node has a movement
pub some_movement : (image : Image) (g : Goal) (kind : Kind) (n : ℕ) → early_refusal_of image (Step g kind n) ≡ None → IsSome (movement_of image n)
some_movement image g kind n h = negated (is_some (movement_of image n)) (test_false (not (is_some (movement_of image n))) NoSequence (facts image g kind n h).0)

same_phase_is : (p q : Phase) → same_phase p q ≡ true → p ≡ q
same_phase_is phase.Prepared phase.Prepared h = refl
same_phase_is phase.Started phase.Started h = refl
same_phase_is phase.Mid phase.Mid h = refl
same_phase_is phase.Prepared phase.Started h = absurd (true≢false (sym h))
same_phase_is phase.Prepared phase.Mid h = absurd (true≢false (sym h))
same_phase_is phase.Started phase.Prepared h = absurd (true≢false (sym h))
same_phase_is phase.Started phase.Mid h = absurd (true≢false (sym h))
same_phase_is phase.Mid phase.Prepared h = absurd (true≢false (sym h))
same_phase_is phase.Mid phase.Started h = absurd (true≢false (sym h))

and_second : (a b : Bool) → (a && b) ≡ true → b ≡ true
and_second true b h = h
and_second false b h = absurd (true≢false (sym h))

-- and there at the phase before the step
before_step : (image : Image) (g : Goal) (kind : Kind) (n : ℕ) (s : SeqRow) → early_refusal_of image (Step g kind n) ≡ None → movement_of image n ≡ Some s → s.phase ≡ phase_before g
before_step image g kind n s h found =
    let right : unless_next g kind s ≡ None = ap (option_and_then (unless_next g kind)) (sym found) ∙ (facts image g kind n h).1 in
    let next = negated (is_next_step g kind s) (test_false (not (is_next_step g kind s)) (WrongStep s.kind s.phase) right) in
    same_phase_is s.phase (phase_before g) (and_second (same_kind s.kind kind) (same_phase s.phase (phase_before g)) next)

-- ---- the changes

module _ (image : Image) (n : ℕ) (at : ℕ) (s : SeqRow) (up : IsStrictlySortedBy by_node image.sequences) (within : at < length image.sequences)
    (here : s ≡ get_or image.sequences at s) (place : slice_get image.sequences at ≡ movement_of image n) where
  pub stands : slice_get image.sequences at ≡ Some s
  stands = at_index image.sequences at s within here

  pub found : movement_of image n ≡ Some s
  found = sym place ∙ stands

  pub own : (s.node == n) ≡ true
  own = found_passes (λ (q : SeqRow). q.node == n) image.sequences s found

  pub stands_in : (p : Phase) → s.phase ≡ p → StandsAt image.sequences at p
  stands_in p was = ap (option_map (λ (q : SeqRow). q.phase)) stands ∙ ap (λ (p : Phase). Some p) was

  abbrev pub with_rows : List SeqRow → Image
  with_rows rows = record image { epoch = image.epoch + 1; sequences = rows }

  pub after : (p : Phase) → with_rows (phased image.sequences at p) ≡ with_rows (map (at_phase p n) image.sequences)
  after p = ap with_rows (sym (stepped_at n p image.sequences at s up stands own))

  pub started : (kind : Kind) (g : Goal) → g ≡ goal.Start → early_refusal_of image (Step g kind n) ≡ None → IsChange image (Step g kind n) (Started at)
  unfolding next_image
  started kind goal.Start is h =
      record { made = after phase.Started; nodes = tt; follows = stands_in phase.Prepared (before_step image goal.Start kind n s h found); plan = tt; suits = place }
  started kind goal.Mid is h = cc
  started kind goal.Finish is h = cc

  pub half_way : (kind : Kind) (g : Goal) → g ≡ goal.Mid → early_refusal_of image (Step g kind n) ≡ None → IsChange image (Step g kind n) (Mid at)
  unfolding next_image
  half_way kind goal.Mid is h =
      record { made = after phase.Mid; nodes = tt; follows = stands_in phase.Started (before_step image goal.Mid kind n s h found); plan = tt; suits = place }
  half_way kind goal.Start is h = cc
  half_way kind goal.Finish is h = cc

  pub done : (kind : Kind) (g : Goal) (left : Option LeftRow) (ring : List Pair) → g ≡ goal.Finish → early_refusal_of image (Step g kind n) ≡ None → nodes_left image.nodes left ≡ with_left image.nodes (leaver s)
      → IfSome left (IsLeftRow image.nodes) → ring ≡ ring_after image.tokens s → IsChange image (Step g kind n) (Finished at left ring)
  unfolding next_image
  done kind goal.Finish left ring is h marked fits made =
      let none_own : others image.sequences s.node ≡ remove image.sequences at = others_at s.node image.sequences at s up stands ((Decides-eqb s.node s.node).1 refl) in
      let ended : List NodeRow → List Pair → List SeqRow → Image = λ k r l. record image { epoch = image.epoch + 1; nodes = k; tokens = r; sequences = l } in
      let last : Option SeqRow → Image = λ o. let a : Image = finished image o in record a { epoch = image.epoch + 1 } in
      record {
        made = ap (λ k. ended k ring (remove image.sequences at)) marked ∙ ap (λ r. ended (with_left image.nodes (leaver s)) r (remove image.sequences at)) made
            ∙ ap (ended (with_left image.nodes (leaver s)) (ring_after image.tokens s)) (sym none_own) ∙ ap last (sym found);
        nodes = fits;
        follows = stands_in phase.Mid (before_step image goal.Finish kind n s h found);
        plan = tt;
        suits = place;
      }
  done kind goal.Start left ring is h marked fits made = cc
  done kind goal.Mid left ring is h marked fits made = cc
