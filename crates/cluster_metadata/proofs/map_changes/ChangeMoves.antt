-- How the change of an accepted command moves the placements and the cuts.
use Rattle.std.proofs.Common.{◌≡◌, ℕ, ℤ, true, false, not, if◌then◌else◌, List, [], ◌∷◌, None, Some, Option, refl, sym, ap, ◌∙◌, subst}
use Rattle.std.specs.List.{AllByRecursion, slice_get}
use Rattle.cluster_terms.specs.Arc.{IsToken}
use Rattle.cluster_terms.specs.Replication.{same_replication}
use Rattle.cluster_terms.specs.declared.replication.Replication.{Replication}
use Rattle.sequence_plans.proofs.DeltaBookLemmas.{at_each_token}
use Rattle.placement_deltas.specs.Replications.{replications_of}
use Rattle.transformation_laws.proofs.cut_changes.CutsFollowed.{cuts_followed}
use Rattle.transformation_laws.proofs.deltas.ChangedByCommands.{changes_by_deltas}
use Rattle.transformations.proofs.lists.ListLemmas.{all_weaker, part_all_of, part_filter}
use Rattle.transformations.specs.CutSteps.{CutsChange, ended_by, unless_mid}
use Rattle.transformations.specs.DeltaSteps.{AreChanged, PlacementDelta, cancel_delta, delta_of_command, delta_of_movement, step_delta}
use Rattle.transformations.specs.History.{is_command, next_image}
use Rattle.transformations.specs.Meeting.{is_unsafe_join, makes_movement_epoch}
use Rattle.transformations.specs.Refusals.{prepared_by, refusal_of}
use Rattle.transformations.specs.Rings.{cuts}
use Rattle.transformations.specs.Movements.{movement_of, same_phase}
use Rattle.transformations.specs.Valid.{IsValid}
use Rattle.transformations.specs.declared.command.Command.{Command}
use Rattle.transformations.specs.declared.command.Command.TheVariants.{Register, Unregister, PrepareJoin, PrepareMove, PrepareLeave, PrepareReplace, Step, Cancel}
use Rattle.transformations.specs.declared.image.Image.{Image}
use Rattle.transformations.specs.declared.keyspace.KeyspaceRow.{KeyspaceRow}
use Rattle.transformations.specs.declared.sequence.Goal.{Goal}
use Rattle.transformations.specs.declared.sequence.Goal.TheVariants as goal
use Rattle.transformations.specs.declared.sequence.Kind.{Kind}
use Rattle.transformations.specs.declared.sequence.Phase.TheVariants as phase
use Rattle.transformations.specs.declared.sequence.SeqRow.{SeqRow}
use Rattle.cluster_metadata.proofs.in_flight.MovementPlaces.{known_of, some_there}
use Rattle.cluster_metadata.specs.code.Change.{Follows, IsChange, Suits, changed}
use Rattle.cluster_metadata.specs.code.MapSteps.{MapSteps}
use Rattle.placement_maps.specs.code.Moves.{MovesBy, deltas_of, no_deltas}
use Rattle.cluster_metadata.specs.declared.changes.change.Change.{Change}
use Rattle.cluster_metadata.specs.declared.changes.change.Change.TheVariants.{Unchanged, Registered, Unregistered, Tokens, Keyspaces, Begun, Started, Mid, Finished, Ended, BroughtBack}

-- what holds of the replication of each keyspace holds of each replication
all_replications : (P : Replication → Type 0) (ks : List KeyspaceRow) → AllByRecursion (λ k. P k.replication) ks → AllByRecursion P (replications_of ks)
all_replications P [] all = tt
all_replications P (k ∷ ks) all = (all.0, part_all_of P (part_filter (λ r. not (same_replication k.replication r)) (replications_of ks)) (all_replications P ks all.1))

module _ (image after : Image) (c : Command) (valid : IsValid image) (formed : is_command c ≡ true) (accepted : refusal_of image c ≡ None) (made : after ≡ next_image image c) where
  -- each token's reads and writes change by the delta of the command
  moves_by : ((name : List ℕ) → makes_movement_epoch name c ≡ true) → (delta : Replication → ℤ → PlacementDelta) → ((r : Replication) (x : ℤ) → delta_of_command image c r x ≡ delta r x) → after.keyspaces ≡ image.keyspaces → MovesBy image after delta
  moves_by epoch delta same keyspaces =
      let changed_at : ℤ → KeyspaceRow → Type 0 = λ x k. AreChanged image (next_image image c) k.replication x (delta_of_command image c k.replication x) in
      let each : AllByRecursion (λ (k : KeyspaceRow). (x : ℤ) → IsToken x → changed_at x k) image.keyspaces =
      at_each_token changed_at image.keyspaces
      (λ x token. all_weaker (λ (k : KeyspaceRow). makes_movement_epoch k.name c ≡ true → changed_at x k) (changed_at x) (λ k acts. acts (epoch k.name)) image.keyspaces (changes_by_deltas image c valid formed accepted x token)) in
      record {
        keyspaces = keyspaces;
        changes =
            all_replications (λ r. (x : ℤ) → IsToken x → AreChanged image after r x (delta r x)) image.keyspaces
            (subst (λ i. AllByRecursion (λ (k : KeyspaceRow). (x : ℤ) → IsToken x → AreChanged image i k.replication x (delta k.replication x)) image.keyspaces) (sym made)
            (subst (λ (d : Replication → ℤ → PlacementDelta). AllByRecursion (λ (k : KeyspaceRow). (x : ℤ) → IsToken x → AreChanged image (next_image image c) k.replication x (d k.replication x)) image.keyspaces)
            (λ i r x. same r x i) each));
      }

  -- the cuts change by the movement that it prepares, or by the movement that it ends
  cuts_by : is_unsafe_join c ≡ false → CutsChange image after (prepared_by image.tokens c) (ended_by image c)
  cuts_by moves = subst (λ i. CutsChange image i (prepared_by image.tokens c) (ended_by image c)) (sym made) (cuts_followed image c valid.sound formed accepted moves)

-- the movement of a node, at its position
module _ (image : Image) (n at : ℕ) (stands : slice_get image.sequences at ≡ movement_of image n) where
  step_moves : (goal : Goal) (kind : Kind) (s : SeqRow) → slice_get image.sequences at ≡ Some s → (r : Replication) (x : ℤ) → delta_of_command image (Step goal kind n) r x ≡ deltas_of (step_delta goal) image s r x
  step_moves goal kind s here r x = ap (λ (o : Option SeqRow). delta_of_movement (λ s. step_delta goal) image r x o) (sym stands ∙ here)

  cancel_moves : (s : SeqRow) → slice_get image.sequences at ≡ Some s → (r : Replication) (x : ℤ) → delta_of_command image (Cancel n) r x ≡ deltas_of (cancel_delta s.phase) image s r x
  cancel_moves s here r x = ap (λ (o : Option SeqRow). delta_of_movement (λ s. cancel_delta s.phase) image r x o) (sym stands ∙ here)

pub map_steps : (image : Image) (c : Command) (change : Change) → IsValid image → is_command c ≡ true → refusal_of image c ≡ None → IsChange image c change → MapSteps image change
map_steps image c change valid formed accepted makes = by c change makes.suits formed accepted makes.made makes.follows
  where
    by : (c : Command) (change : Change) → Suits image c change → is_command c ≡ true → refusal_of image c ≡ None → changed image change ≡ next_image image c → Follows image.sequences change → MapSteps image change
    by (Register name dc rack) (Registered node) suits formed accepted made follows =
        let after : Image = changed image (Registered node) in
        (moves_by image after (Register name dc rack) valid formed accepted made (λ name. refl) no_deltas (λ r x. refl) refl, cuts_by image after (Register name dc rack) valid formed accepted made refl)
    by (Unregister n) (Unregistered m) suits formed accepted made follows =
        let after : Image = changed image (Unregistered m) in
        (moves_by image after (Unregister n) valid formed accepted made (λ name. refl) no_deltas (λ r x. refl) refl, cuts_by image after (Unregister n) valid formed accepted made refl)
    by (Step goal.Start kind n) (Started at) suits formed accepted made follows =
        let after : Image = changed image (Started at) in
        let c : Command = Step goal.Start kind n in
        record {
          moves = λ s here. moves_by image after c valid formed accepted made (λ name. refl) (deltas_of (step_delta goal.Start) image s) (step_moves image n at suits goal.Start kind s here) refl;
          cuts = cuts_by image after c valid formed accepted made refl;
        }
    by (Step goal.Mid kind n) (Mid at) suits formed accepted made follows =
        let after : Image = changed image (Mid at) in
        let c : Command = Step goal.Mid kind n in
        record {
          moves = λ s here. moves_by image after c valid formed accepted made (λ name. refl) (deltas_of (step_delta goal.Mid) image s) (step_moves image n at suits goal.Mid kind s here) refl;
          cuts = cuts_by image after c valid formed accepted made refl;
        }
    by (Cancel n) (BroughtBack at) suits formed accepted made follows =
        let after : Image = changed image (BroughtBack at) in
        let half : (s : SeqRow) → slice_get image.sequences at ≡ Some s → s.phase ≡ phase.Mid = λ s. known_of (λ s. s.phase) phase.Mid (slice_get image.sequences at) s follows in
        record {
          moves = λ s here.
              moves_by image after (Cancel n) valid formed accepted made (λ name. refl) (deltas_of (cancel_delta phase.Mid) image s)
              (λ r x. cancel_moves image n at suits s here r x ∙ ap (λ p. deltas_of (cancel_delta p) image s r x) (half s here)) refl;
          cuts = some_there (λ s. s.phase) phase.Mid (slice_get image.sequences at) follows (cuts after ≡ cuts image)
              (λ s here.
              subst (λ p. CutsChange image after None (if same_phase p phase.Mid then None else Some s)) (half s here)
              (subst (λ (o : Option SeqRow). CutsChange image after None (unless_mid o)) (sym suits ∙ here) (cuts_by image after (Cancel n) valid formed accepted made refl)));
        }
    by (Step goal.Finish kind n) (Finished at left tokens) suits formed accepted made follows =
        λ s here.
        moves_by image (changed image (Finished at left tokens)) (Step goal.Finish kind n) valid formed accepted made (λ name. refl) (deltas_of (step_delta goal.Finish) image s)
        (step_moves image n at suits goal.Finish kind s here) refl
    by (Cancel n) (Ended at) suits formed accepted made follows =
        λ s here. moves_by image (changed image (Ended at)) (Cancel n) valid formed accepted made (λ name. refl) (deltas_of (cancel_delta s.phase) image s) (cancel_moves image n at suits s here) refl
    by c (Begun at plan rows) suits formed accepted made follows = begun c suits formed accepted made
      where
        after : Image
        after = changed image (Begun at plan rows)

        prepared : (c : Command) → is_command c ≡ true → refusal_of image c ≡ None → after ≡ next_image image c → ((name : List ℕ) → makes_movement_epoch name c ≡ true)
            → prepared_by image.tokens c ≡ Some plan.row → ((r : Replication) (x : ℤ) → delta_of_command image c r x ≡ no_deltas r x) → MapSteps image (Begun at plan rows)
        prepared c formed accepted made epoch suits none = moves_by image after c valid formed accepted made epoch no_deltas none refl

        begun : (c : Command) → prepared_by image.tokens c ≡ Some plan.row → is_command c ≡ true → refusal_of image c ≡ None → after ≡ next_image image c → MapSteps image (Begun at plan rows)
        begun (PrepareJoin n tokens) suits formed accepted made = prepared (PrepareJoin n tokens) formed accepted made (λ name. refl) suits (λ r x. refl)
        begun (PrepareMove n t) suits formed accepted made = prepared (PrepareMove n t) formed accepted made (λ name. refl) suits (λ r x. refl)
        begun (PrepareLeave n) suits formed accepted made = prepared (PrepareLeave n) formed accepted made (λ name. refl) suits (λ r x. refl)
        begun (PrepareReplace n gone) suits formed accepted made = prepared (PrepareReplace n gone) formed accepted made (λ name. refl) suits (λ r x. refl)
        begun c suits formed accepted made = cc suits
    by c (Tokens pairs) suits formed accepted made follows = tt
    by c (Keyspaces rows renewed) suits formed accepted made follows = tt
    by c Unchanged suits formed accepted made follows = tt
    by c change suits formed accepted made follows = absurd suits
