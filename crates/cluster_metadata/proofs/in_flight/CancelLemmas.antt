-- What an accepted cancel says of the movements, and the changes that it makes.
use Rattle.std.proofs.Common.{◌≡◌, ℕ, ◌+◌, ◌<◌, Bool, true, false, not, true≢false, cond, List, [], ◌∷◌, length, map, get_or, Some, None, IsSome, is_some, option_map, refl, sym, ap, ◌∙◌}
use Rattle.std.specs.List.{remove, slice_get}
use Rattle.std.specs.List.Sorted.{IsStrictlySortedBy}
use Rattle.transformations.specs.History.{next_image}
use Rattle.transformations.specs.Orders.{by_node}
use Rattle.transformations.specs.Refusals.{early_refusal_of, no_node, no_sequence}
use Rattle.transformations.specs.Rings.{is_mid}
use Rattle.transformations.specs.Movements.{at_phase, movement_of, others, same_phase, sequences_after_cancel}
use Rattle.transformations.specs.declared.command.Command.TheVariants.{Cancel}
use Rattle.transformations.specs.declared.image.Image.{Image}
use Rattle.transformations.specs.declared.refusal.Refusal.TheVariants.{NoSequence}
use Rattle.transformations.specs.declared.sequence.Phase.{Phase}
use Rattle.transformations.specs.declared.sequence.Phase.TheVariants as phase
use Rattle.transformations.specs.declared.sequence.SeqRow.{SeqRow}
use Rattle.cluster_metadata.proofs.in_flight.MovementPlaces.{others_at}
use Rattle.transformations.proofs.commands.AcceptedLemmas.{first_none, test_false}
use Rattle.cluster_metadata.proofs.in_flight.AcceptedSteps.{after, found, negated, own, stands, stands_in}
use Rattle.cluster_metadata.specs.code.Change.{IsChange}
use Rattle.cluster_metadata.specs.declared.changes.change.Change.TheVariants.{BroughtBack, Ended}

-- a cancel is accepted only where the node has a movement
pub some_cancelled : (image : Image) (n : ℕ) → early_refusal_of image (Cancel n) ≡ None → IsSome (movement_of image n)
unfolding early_refusal_of
some_cancelled image n h =
    let there = first_none (no_node image n) (no_sequence image n ∷ []) h in
    let has = first_none (no_sequence image n) [] there.1 in
    negated (is_some (movement_of image n)) (test_false (not (is_some (movement_of image n))) NoSequence has.0)

mid_same : (p : Phase) → same_phase p phase.Mid ≡ is_mid p
mid_same phase.Prepared = refl
mid_same phase.Started = refl
mid_same phase.Mid = refl

mid_is : (p : Phase) → is_mid p ≡ true → p ≡ phase.Mid
mid_is phase.Prepared h = absurd (true≢false (sym h))
mid_is phase.Started h = absurd (true≢false (sym h))
mid_is phase.Mid h = refl

module _ (image : Image) (n : ℕ) (at : ℕ) (s : SeqRow) (up : IsStrictlySortedBy by_node image.sequences) (within : at < length image.sequences)
    (here : s ≡ get_or image.sequences at s) (place : slice_get image.sequences at ≡ movement_of image n) where
  abbrev with_rows : List SeqRow → Image
  with_rows rows = record image { epoch = image.epoch + 1; sequences = rows }

  -- what is left is chosen by whether it is half way
  left : (b : Bool) → is_mid s.phase ≡ b → sequences_after_cancel image.sequences n (movement_of image n) ≡ cond b (map (at_phase phase.Started n) image.sequences) (others image.sequences n)
  left b is =
      let chosen : Bool → List SeqRow = λ b. cond b (map (at_phase phase.Started n) image.sequences) (others image.sequences n) in
      ap (sequences_after_cancel image.sequences n) (found image n at s up within here place) ∙ ap chosen (mid_same s.phase ∙ is)

  -- half way it goes back
  pub brought_back : is_mid s.phase ≡ true → IsChange image (Cancel n) (BroughtBack at)
  unfolding next_image
  brought_back was = record {
    made = after image n at s up within here place phase.Started ∙ ap with_rows (sym (left true was));
    nodes = tt;
    follows = stands_in image n at s up within here place phase.Mid (mid_is s.phase was);
    plan = tt;
    suits = place;
  }

  -- else it ends
  pub ended : is_mid s.phase ≡ false → IsChange image (Cancel n) (Ended at)
  unfolding next_image
  ended was =
      let is : slice_get image.sequences at ≡ Some s = stands image n at s up within here place in
      let without : others image.sequences n ≡ remove image.sequences at = others_at n image.sequences at s up is (own image n at s up within here place) in
      let early : option_map (λ (q : SeqRow). is_mid q.phase) (slice_get image.sequences at) ≡ Some false =
      ap (option_map (λ (q : SeqRow). is_mid q.phase)) is ∙ ap (λ (b : Bool). Some b) was in
      record { made = ap with_rows (sym without ∙ sym (left false was)); nodes = tt; follows = early; plan = tt; suits = place }
