-- The plans of the movements in flight have the deltas of their movements, in the image as it is.
use Rattle.std.proofs.Common.{◌≡◌, ℕ, suc, zero, ℤ, List, [], ◌∷◌, map, Some, ◌⊎◌, inl, inr, ap, sym, ◌∙◌, subst}
use Rattle.std.specs.List.{AllByRecursion, insert, remove}
use Rattle.std.specs.List.Sorted.{IsStrictlySortedBy}
use Rattle.std.specs.Option.{IfSome}
use Rattle.cluster_terms.specs.Arc.{IsToken}
use Rattle.cluster_terms.specs.declared.replication.Replication.{Replication}
use Rattle.placement_deltas.specs.declared.plan.Plan.{Plan}
use Rattle.sequence_plans.proofs.DeltaBookLemmas.{at_each_token, steps_like}
use Rattle.sequence_plans.specs.PlanDeltas.{AreStepDeltas, HasDeltas}
use Rattle.placement_deltas.specs.Replications.{replications_of}
use Rattle.transformations.proofs.deltas.StepDeltas.{deltas_kept}
use Rattle.transformations.proofs.lists.ListLemmas.{all_both, all_from_map, all_map, all_weaker}
use Rattle.transformations.proofs.movements.SoleLemmas.{each_found}
use Rattle.transformations.specs.MovementDeltas.{KeepsDeltas, KeepsDeltasAt, SameDeltas, placed_before, placed_with}
use Rattle.transformations.specs.History.{next_image}
use Rattle.transformations.specs.Orders.{by_node}
use Rattle.transformations.specs.Movements.{movement_of}
use Rattle.transformations.specs.Valid.{IsValid}
use Rattle.transformations.specs.declared.command.Command.{Command}
use Rattle.transformations.specs.declared.image.Image.{Image}
use Rattle.transformations.specs.declared.keyspace.KeyspaceRow.{KeyspaceRow}
use Rattle.transformations.specs.declared.sequence.Phase.{Phase}
use Rattle.transformations.specs.declared.sequence.SeqRow.{SeqRow}
use Rattle.cluster_metadata.proofs.in_flight.RenewedPlans.{KeepsKeyspaces, keyspaces_stay, sets_or_keeps}
use Rattle.cluster_metadata.specs.code.Change.{AreRenewed, BringsPlan, changed, in_phase, plans_after, kept_plan, rekeyed}
use Rattle.cluster_metadata.specs.code.PermitParts.{IsPermitted}
use Rattle.cluster_metadata.specs.code.Running.{HaveDeltas, IsRunning, movement_row, phase_of, plan_of}
use Rattle.cluster_metadata.specs.declared.changes.change.Change.{Change}
use Rattle.cluster_metadata.specs.declared.changes.change.Change.TheVariants.{Keyspaces, Begun, Finished, Ended}
use Rattle.cluster_metadata.specs.declared.movements.renewing.Renewed.{Renewed}
use Rattle.cluster_metadata.specs.declared.movements.running.Running.{Running}

-- deltas depend on the nodes, the ring and the keyspaces: not on the epoch, nor on the movements in flight
pub deltas_elsewhere : (image : Image) (epoch : ℕ) (sequences : List SeqRow) (plan : Plan) → HasDeltas image plan → HasDeltas (record image { epoch = epoch; sequences = sequences }) plan
unfolding placed_before placed_with
deltas_elsewhere image epoch sequences plan h = record {
  gains = record { rows = h.gains.rows; exact = h.gains.exact };
  swaps = record { rows = h.swaps.rows; exact = h.swaps.exact };
  loses = record { rows = h.loses.rows; exact = h.loses.exact };
}

-- ---- a plan in two images

module _ (before after : Image) (plan : Plan) where
  -- the plan's movement gains and loses the same in both images, at each token
  abbrev IsSame : Replication → Type 0
  IsSame r = (x : ℤ) → IsToken x → SameDeltas before after r x plan.row plan.row

  -- so the plan keeps its deltas
  still_has : AllByRecursion (λ (k : KeyspaceRow). IsSame k.replication) before.keyspaces → after.keyspaces ≡ before.keyspaces → HasDeltas before plan → HasDeltas after plan
  still_has all keyspaces h =
      subst (λ ks. AreStepDeltas after plan.row (replications_of ks) plan.gain plan.swap plan.lose) (sym keyspaces)
      (steps_like before after plan.row plan.row before.keyspaces all plan.gain plan.swap plan.lose h)

-- ---- the plans of movements, before and after a command

-- a movement is its node's
abbrev IsOwn : Image → SeqRow → Type 0
IsOwn image s = movement_of image s.node ≡ Some s

-- a plan has its deltas, if its movement is in flight at some phase
abbrev HasInFlight : Image → Plan → Type 0
HasInFlight image plan = (p : Phase) → IsOwn image (in_phase p plan.row) → HasDeltas image plan

module _ (before after : Image) (keeps : KeepsDeltas before after) (keyspaces : after.keyspaces ≡ before.keyspaces) where
  -- a movement keeps its deltas, under each keyspace
  abbrev Keeps : SeqRow → Type 0
  Keeps s = AllByRecursion (λ (k : KeyspaceRow). (x : ℤ) → IsToken x → KeepsDeltasAt before after x k.replication s) before.keyspaces

  abbrev KeepAt : ℤ → List SeqRow → KeyspaceRow → Type 0
  KeepAt x rows k = AllByRecursion (KeepsDeltasAt before after x k.replication) rows

  each_keeps : (rows : List SeqRow) → AllByRecursion (λ k. (x : ℤ) → IsToken x → KeepAt x rows k) before.keyspaces → AllByRecursion Keeps rows
  each_keeps [] all = tt
  each_keeps (s ∷ rows) all = (
    all_weaker (λ (k : KeyspaceRow). (x : ℤ) → IsToken x → KeepAt x (s ∷ rows) k) (λ k. (x : ℤ) → IsToken x → KeepsDeltasAt before after x k.replication s) (λ k both x token. (both x token).0) before.keyspaces all,
    each_keeps rows (all_weaker (λ (k : KeyspaceRow). (x : ℤ) → IsToken x → KeepAt x (s ∷ rows) k) (λ k. (x : ℤ) → IsToken x → KeepAt x rows k) (λ k both x token. (both x token).1) before.keyspaces all),
  )

  all_keep : AllByRecursion Keeps before.sequences
  all_keep =
      each_keeps before.sequences
      (at_each_token (λ x k. KeepAt x before.sequences k) before.keyspaces keeps)

  -- phases don't matter to deltas
  goes_on : (plan : Plan) (p q : Phase) → Keeps (in_phase p plan.row) → IsOwn after (in_phase q plan.row) → HasDeltas before plan → HasDeltas after plan
  unfolding placed_before placed_with
  goes_on plan p q kept there =
      let same : AllByRecursion (λ (k : KeyspaceRow). IsSame before after plan k.replication) before.keyspaces =
      all_weaker (λ (k : KeyspaceRow). (x : ℤ) → IsToken x → KeepsDeltasAt before after x k.replication (in_phase p plan.row)) (λ k. IsSame before after plan k.replication)
      (λ k all x token. found k.replication x (all x token)) before.keyspaces kept in
      still_has before after plan same keyspaces
    where
      found : (r : Replication) (x : ℤ) → KeepsDeltasAt before after x r (in_phase p plan.row) → SameDeltas before after r x plan.row plan.row
      found r x all =
          let same : SameDeltas before after r x (in_phase p plan.row) (in_phase q plan.row) = subst (λ o. IfSome o (SameDeltas before after r x (in_phase p plan.row))) there all in
          record { gained = same.gained; lost = same.lost }

  -- the plans of movements that go on have their deltas after the command
  old_plans : (values : List Running) → IsRunning before.sequences values → HaveDeltas before values → AllByRecursion (HasInFlight after) (map plan_of values)
  old_plans values is have =
      all_map (HasInFlight after) plan_of values
      (all_both (λ m. Keeps (movement_row m)) (λ m. HasDeltas before (plan_of m)) (λ m. HasInFlight after (plan_of m))
      (λ m kept has q now. goes_on (plan_of m) (phase_of m) q kept now has) values
      (all_from_map Keeps movement_row values (subst (AllByRecursion Keeps) (sym is) all_keep)) have)

-- the plans after a change, from those before
all_insert : {X : Type 0} (P : X → Type 0) (xs : List X) (i : ℕ) (x : X) → P x → AllByRecursion P xs → AllByRecursion P (insert xs i x)
all_insert P xs zero x here all = (here, all)
all_insert P [] (suc i) x here all = (here, tt)
all_insert P (y ∷ ys) (suc i) x here all = (all.0, all_insert P ys i x here all.1)

all_remove : {X : Type 0} (P : X → Type 0) (xs : List X) (i : ℕ) → AllByRecursion P xs → AllByRecursion P (remove xs i)
all_remove P [] zero all = tt
all_remove P [] (suc i) all = tt
all_remove P (y ∷ ys) zero all = all.1
all_remove P (y ∷ ys) (suc i) all = (all.0, all_remove P ys i all.1)

new_plans : (image : Image) (change : Change) (plans : List Plan) → KeepsKeyspaces change → BringsPlan image change → AllByRecursion (HasInFlight (changed image change)) plans → AllByRecursion (HasInFlight (changed image change)) (plans_after plans change)
new_plans image (Keyspaces keyspaces renewed) plans keeps brings all = absurd keeps
new_plans image (Begun at plan sequences) plans keeps brings all = all_insert (HasInFlight (changed image (Begun at plan sequences))) plans at (kept_plan plan) (λ p there. brings.0) all
new_plans image (Finished at left tokens) plans keeps brings all = all_remove (HasInFlight (changed image (Finished at left tokens))) plans at all
new_plans image (Ended at) plans keeps brings all = all_remove (HasInFlight (changed image (Ended at))) plans at all
new_plans image _ plans keeps brings all = all

-- each movement of an image is in flight, so the plans of its movements have their deltas
have_deltas : (image : Image) (values : List Running) → IsRunning image.sequences values → IsStrictlySortedBy by_node image.sequences → AllByRecursion (HasInFlight image) (map plan_of values) → HaveDeltas image values
have_deltas image values is up all =
    all_both (λ m. IsOwn image (movement_row m)) (λ m. HasInFlight image (plan_of m)) (λ m. HasDeltas image (plan_of m)) (λ m there has. has (phase_of m) there) values
    (all_from_map (IsOwn image) movement_row values (subst (AllByRecursion (IsOwn image)) (sym is) (each_found image.sequences up)))
    (all_from_map (HasInFlight image) plan_of values all)

-- plans that are made anew have theirs
renewed_held : (before after : Image) (change : Change) (old new : List Running) (keyspaces : List KeyspaceRow) (renewed : Renewed) → change ≡ Keyspaces keyspaces renewed → BringsPlan before change → after ≡ changed before change
    → map plan_of new ≡ plans_after (map plan_of old) change → HaveDeltas after new
renewed_held before after change old new keyspaces renewed is brings made plans =
    let brought : AreRenewed (rekeyed before keyspaces) renewed = subst (BringsPlan before) is brings in
    let leads : after ≡ rekeyed before keyspaces = made ∙ ap (changed before) is in
    let own : map plan_of new ≡ renewed.plans.items = plans ∙ ap (plans_after (map plan_of old)) is in
    all_from_map (HasDeltas after) plan_of new (subst (AllByRecursion (HasDeltas after)) (sym own) (subst (λ i. AllByRecursion (HasDeltas i) renewed.plans.items) (sym leads) brought.deltas))

-- a command that is accepted keeps the deltas of the plans exact
pub deltas_held : (before after : Image) (c : Command) (change : Change) (old new : List Running) → IsPermitted before c change → after ≡ changed before change → IsValid before → IsRunning before.sequences old → HaveDeltas before old
    → IsStrictlySortedBy by_node after.sequences → IsRunning after.sequences new → map plan_of new ≡ plans_after (map plan_of old) change → HaveDeltas after new
deltas_held before after c change old new permitted made valid was had up is plans = by (sets_or_keeps change)
  where
    by : ((set : List KeyspaceRow × Renewed) × (change ≡ Keyspaces set.0 set.1)) ⊎ KeepsKeyspaces change → HaveDeltas after new
    by (inl ((keyspaces, renewed), same)) = renewed_held before after change old new keyspaces renewed same permitted.makes.plan made plans
    by (inr kept) =
        let next : next_image before c ≡ changed before change = sym permitted.makes.made in
        let keeps : KeepsDeltas before (changed before change) = subst (KeepsDeltas before) next (deltas_kept before c valid permitted.formed permitted.accepted) in
        let all : AllByRecursion (HasInFlight (changed before change)) (plans_after (map plan_of old) change) =
        new_plans before change (map plan_of old) kept permitted.makes.plan (old_plans before (changed before change) keeps (keyspaces_stay before change kept) old was had) in
        have_deltas after new is up (rw (made, plans) all)
