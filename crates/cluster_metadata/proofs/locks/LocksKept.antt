-- The locks of the movements stay exact: each change locks or unlocks its own movement alone.
use Rattle.std.proofs.Common.{◌≡◌, ℕ, suc, zero, ◌≤◌, ℤ, not, ◌==◌, List, [], ◌∷◌, map, length, Some, ◌⊎◌, inl, inr, refl, sym, ap, ◌∙◌, subst, arith}
use Rattle.std.specs.List.{AllByRecursion, insert, remove, slice_get}
use Rattle.std.specs.List.Sorted.{IsStrictlySortedBy}
use Rattle.std.specs.Option.{IfSome}
use Rattle.std.proofs.lemmas.Bool.Decides.{Decides-eqb}
use Rattle.cluster_terms.specs.Arc.{IsToken}
use Rattle.cluster_terms.specs.Replication.{same_replication}
use Rattle.cluster_terms.specs.declared.replication.Replication.{Replication}
use Rattle.token_ring.specs.TokenRanges.{HaveTokens}
use Rattle.token_ring.specs.declared.range_book.LockRow.{LockRow}
use Rattle.token_ring.specs.declared.range_book.RangeRow.{RangeRow}
use Rattle.placement_deltas.specs.declared.plan.Plan.{Plan}
use Rattle.sequence_plans.proofs.DeltaBookLemmas.{at_each_token}
use Rattle.placement_deltas.specs.Replications.{replications_of}
use Rattle.transformations.proofs.lists.ListLemmas.{all_both, all_from_map, all_weaker, found_passes, part_all_of, part_filter}
use Rattle.transformations.proofs.movements.SoleLemmas.{each_found}
use Rattle.transformations.proofs.ranges.KeptRanges.{ranges_alike}
use Rattle.transformations.proofs.ranges.RangesKept.{ranges_kept}
use Rattle.transformations.specs.History.{next_image}
use Rattle.transformations.specs.Orders.{by_node}
use Rattle.transformations.specs.Ranges.{KeepsAt, KeepsRanges, in_ranges}
use Rattle.transformations.specs.Movements.{movement_of}
use Rattle.transformations.specs.Valid.{IsValid}
use Rattle.transformations.specs.declared.command.Command.{Command}
use Rattle.transformations.specs.declared.image.Image.{Image}
use Rattle.transformations.specs.declared.keyspace.KeyspaceRow.{KeyspaceRow}
use Rattle.transformations.specs.declared.sequence.SeqRow.{SeqRow}
use Rattle.cluster_metadata.proofs.in_flight.MovementPlaces.{at_place}
use Rattle.cluster_metadata.proofs.in_flight.RenewedPlans.{KeepsKeyspaces, keyspaces_stay, sets_or_keeps}
use Rattle.cluster_metadata.specs.code.Change.{AreRenewed, BringsPlan, Follows, changed, plan_lock, plans_after, kept_plan, rekeyed}
use Rattle.cluster_metadata.specs.code.Locking.{locks_after}
use Rattle.sequence_plans.specs.Locks.{AreLocksOf, IsLockOf}
use Rattle.cluster_metadata.specs.code.PermitParts.{IsPermitted}
use Rattle.cluster_metadata.specs.code.Running.{IsRunning, movement_row, plan_of}
use Rattle.cluster_metadata.specs.declared.changes.change.Change.{Change}
use Rattle.cluster_metadata.specs.declared.changes.change.Change.TheVariants.{Keyspaces, Begun, Finished, Ended}
use Rattle.cluster_metadata.specs.declared.movements.renewing.Renewed.{Renewed}
use Rattle.cluster_metadata.specs.declared.movements.running.Running.{Running}

-- ---- one lock

-- the epoch is of no account
pub lock_later : (image : Image) (epoch : ℕ) (s : SeqRow) (row : LockRow) → IsLockOf image s row → IsLockOf (record image { epoch = epoch }) s row
lock_later image epoch s row h =
    let after : Image = record image { epoch = epoch } in
    record {
      node = h.node;
      rows = h.rows;
      ranges = all_weaker (λ (r : RangeRow). HaveTokens (in_ranges image r.replication s) r.ranges) (λ (r : RangeRow). HaveTokens (in_ranges after r.replication s) r.ranges)
          (λ r have x token. have x token ∙ ranges_alike image after r.replication x s s refl refl refl refl) row.ranges h.ranges;
    }

-- what holds of the replication of each keyspace holds of each replication
all_replications : (P : Replication → Type 0) (keyspaces : List KeyspaceRow) → AllByRecursion (λ k. P k.replication) keyspaces → AllByRecursion P (replications_of keyspaces)
all_replications P [] all = tt
all_replications P (k ∷ ks) all = (all.0, part_all_of P (part_filter (λ r. not (same_replication k.replication r)) (replications_of ks)) (all_replications P ks all.1))

-- under a replication a movement before has the ranges of one after
abbrev pub IsAlike : Image → Image → SeqRow → SeqRow → Replication → Type 0
IsAlike before after s q r = (x : ℤ) → IsToken x → in_ranges before r s x ≡ in_ranges after r q x

-- so its lock is the lock of both
pub lock_alike : (before after : Image) (s q : SeqRow) (row : LockRow) → after.keyspaces ≡ before.keyspaces → q.node ≡ s.node → AllByRecursion (λ (k : KeyspaceRow). IsAlike before after s q k.replication) before.keyspaces
    → IsLockOf before s row → IsLockOf after q row
lock_alike before after s q row keyspaces node all h = record {
  node = h.node ∙ sym node;
  rows = h.rows ∙ ap replications_of (sym keyspaces);
  ranges = all_both (λ (r : RangeRow). HaveTokens (in_ranges before r.replication s) r.ranges) (λ (r : RangeRow). IsAlike before after s q r.replication) (λ (r : RangeRow). HaveTokens (in_ranges after r.replication q) r.ranges)
      (λ r have same x token. have x token ∙ same x token) row.ranges h.ranges
      (all_from_map (IsAlike before after s q) (λ (r : RangeRow). r.replication) row.ranges
      (subst (AllByRecursion (IsAlike before after s q)) (sym h.rows) (all_replications (IsAlike before after s q) before.keyspaces all)));
}

-- ---- the locks of movements, before and after a command

-- what holds of each movement under each keyspace, taken by movements
pub each_movement : (P : ℤ → KeyspaceRow → SeqRow → Type 0) (keyspaces : List KeyspaceRow) (rows : List SeqRow) → AllByRecursion (λ k. (x : ℤ) → IsToken x → AllByRecursion (P x k) rows) keyspaces
    → AllByRecursion (λ s. AllByRecursion (λ k. (x : ℤ) → IsToken x → P x k s) keyspaces) rows
each_movement P keyspaces [] all = tt
each_movement P keyspaces (s ∷ rows) all = (
  all_weaker (λ k. (x : ℤ) → IsToken x → AllByRecursion (P x k) (s ∷ rows)) (λ k. (x : ℤ) → IsToken x → P x k s) (λ k both x token. (both x token).0) keyspaces all,
  each_movement P keyspaces rows (all_weaker (λ k. (x : ℤ) → IsToken x → AllByRecursion (P x k) (s ∷ rows)) (λ k. (x : ℤ) → IsToken x → AllByRecursion (P x k) rows) (λ k both x token. (both x token).1) keyspaces all),
)

-- a row is the lock of the movement of a node, if it has one
abbrev IsLockAt : Image → ℕ → LockRow → Type 0
IsLockAt image n row = (q : SeqRow) → movement_of image n ≡ Some q → IsLockOf image q row

-- the rows are the locks of the movements of the nodes of these plans
abbrev AreLocksAt : Image → List Plan → List LockRow → Type 0
AreLocksAt image [] [] = Unit {0}
AreLocksAt image [] (row ∷ rows) = ⊥
AreLocksAt image (plan ∷ plans) [] = ⊥
AreLocksAt image (plan ∷ plans) (row ∷ rows) = IsLockAt image plan.row.node row × AreLocksAt image plans rows

module _ (before after : Image) (keyspaces : after.keyspaces ≡ before.keyspaces) where
  abbrev Keeps : SeqRow → Type 0
  Keeps s = AllByRecursion (λ (k : KeyspaceRow). (x : ℤ) → IsToken x → KeepsAt before after x k.replication s) before.keyspaces

  lock_goes_on : (s : SeqRow) (row : LockRow) → Keeps s → IsLockOf before s row → IsLockAt after s.node row
  lock_goes_on s row keeps h q there =
      lock_alike before after s q row keyspaces ((Decides-eqb q.node s.node).0 (found_passes (λ (r : SeqRow). r.node == s.node) after.sequences q there))
      (all_weaker (λ (k : KeyspaceRow). (x : ℤ) → IsToken x → KeepsAt before after x k.replication s) (λ (k : KeyspaceRow). IsAlike before after s q k.replication)
      (λ k kept x token. subst (λ o. IfSome o (λ (r : SeqRow). in_ranges before k.replication s x ≡ in_ranges after k.replication r x)) there (kept x token)) before.keyspaces keeps) h

  old_locks : (values : List Running) (table : List LockRow) → AllByRecursion Keeps (map movement_row values) → AreLocksOf before (map movement_row values) table
      → AreLocksAt after (map plan_of values) table
  old_locks [] [] kept are = tt
  old_locks [] (row ∷ table) kept are = absurd are
  old_locks (m ∷ values) [] kept are = absurd are
  old_locks (m ∷ values) (row ∷ table) kept are = (lock_goes_on (movement_row m) row kept.0 are.0, old_locks values table kept.1 are.1)

-- ---- a change

at_insert : (image : Image) (plans : List Plan) (table : List LockRow) (at : ℕ) (plan : Plan) (row : LockRow) → IsLockAt image plan.row.node row → AreLocksAt image plans table → AreLocksAt image (insert plans at plan) (insert table at row)
at_insert image plans table zero plan row here are = (here, are)
at_insert image [] [] (suc at) plan row here are = (here, tt)
at_insert image [] (l ∷ table) (suc at) plan row here are = absurd are
at_insert image (p ∷ plans) [] (suc at) plan row here are = absurd are
at_insert image (p ∷ plans) (l ∷ table) (suc at) plan row here are = (are.0, at_insert image plans table at plan row here are.1)

at_remove : (image : Image) (plans : List Plan) (table : List LockRow) (at : ℕ) → AreLocksAt image plans table → AreLocksAt image (remove plans at) (remove table at)
at_remove image [] [] zero are = tt
at_remove image [] [] (suc at) are = tt
at_remove image [] (l ∷ table) at are = absurd are
at_remove image (p ∷ plans) [] at are = absurd are
at_remove image (p ∷ plans) (l ∷ table) zero are = are.1
at_remove image (p ∷ plans) (l ∷ table) (suc at) are = (are.0, at_remove image plans table at are.1)

inserted_there : {X : Type 0} (xs : List X) (at : ℕ) (x : X) → at ≤ length xs → slice_get (insert xs at x) at ≡ Some x
inserted_there xs zero x within = refl
inserted_there [] (suc at) x within = absurd (omega arith)
inserted_there (y ∷ xs) (suc at) x within = inserted_there xs at x (omega arith)

new_locks : (image : Image) (change : Change) (plans : List Plan) (table : List LockRow) → KeepsKeyspaces change → BringsPlan image change → Follows image.sequences change → IsStrictlySortedBy by_node (changed image change).sequences
    → AreLocksAt (changed image change) plans table → AreLocksAt (changed image change) (plans_after plans change) (locks_after table change)
new_locks image (Keyspaces keyspaces renewed) plans table keeps brings follows up are = absurd keeps
new_locks image (Begun at plan sequences) plans table keeps brings follows up are =
    let after : Image = changed image (Begun at plan sequences) in
    let there : slice_get sequences at ≡ Some plan.row = ap (λ (l : List SeqRow). slice_get l at) follows.2 ∙ inserted_there image.sequences at plan.row follows.1 in
    let own : movement_of after plan.row.node ≡ Some plan.row = at_place (λ s. movement_of after s.node ≡ Some s) sequences at plan.row (each_found sequences up) there in
    at_insert after plans table at (kept_plan plan) (plan_lock plan) (λ q found. let same : plan.row ≡ q = cc in subst (λ s. IsLockOf after s (plan_lock plan)) same brings.1) are
new_locks image (Finished at left tokens) plans table keeps brings follows up are = at_remove (changed image (Finished at left tokens)) plans table at are
new_locks image (Ended at) plans table keeps brings follows up are = at_remove (changed image (Ended at)) plans table at are
new_locks image _ plans table keeps brings follows up are = are

-- each movement of an image is its node's
have_locks : (image : Image) (values : List Running) (table : List LockRow) → AllByRecursion (λ s. movement_of image s.node ≡ Some s) (map movement_row values) → AreLocksAt image (map plan_of values) table
    → AreLocksOf image (map movement_row values) table
have_locks image [] [] own are = tt
have_locks image [] (row ∷ table) own are = absurd are
have_locks image (m ∷ values) [] own are = absurd are
have_locks image (m ∷ values) (row ∷ table) own are = (are.0 (movement_row m) own.0, have_locks image values table own.1 are.1)

-- locks that are made anew are those of the movements
renewed_locks : (before after : Image) (change : Change) (table : List LockRow) (keyspaces : List KeyspaceRow) (renewed : Renewed) → change ≡ Keyspaces keyspaces renewed → BringsPlan before change → after ≡ changed before change
    → AreLocksOf after after.sequences (locks_after table change)
renewed_locks before after change table keyspaces renewed is brings made =
    let brought : AreRenewed (rekeyed before keyspaces) renewed = subst (BringsPlan before) is brings in
    let leads : after ≡ rekeyed before keyspaces = made ∙ ap (changed before) is in
    subst (AreLocksOf after after.sequences) (sym (ap (locks_after table) is)) (subst (λ (i : Image). AreLocksOf i i.sequences renewed.locks) (sym leads) brought.locks)

-- after a command that is accepted, the table has the locks of the movements
pub locks_held : (before after : Image) (c : Command) (change : Change) (old new : List Running) (table : List LockRow) → IsPermitted before c change → after ≡ changed before change → IsValid before → IsRunning before.sequences old
    → AreLocksOf before before.sequences table → IsStrictlySortedBy by_node after.sequences → IsRunning after.sequences new → map plan_of new ≡ plans_after (map plan_of old) change → AreLocksOf after after.sequences (locks_after table change)
locks_held before after c change old new table permitted made valid was had up is plans = by (sets_or_keeps change)
  where
    by : ((set : List KeyspaceRow × Renewed) × (change ≡ Keyspaces set.0 set.1)) ⊎ KeepsKeyspaces change → AreLocksOf after after.sequences (locks_after table change)
    by (inl ((keyspaces, renewed), same)) = renewed_locks before after change table keyspaces renewed same permitted.makes.plan made
    by (inr kept) =
        let later : Image = changed before change in
        let next : next_image before c ≡ later = sym permitted.makes.made in
        let keeps : KeepsRanges before later = subst (KeepsRanges before) next (ranges_kept before c valid permitted.formed permitted.accepted) in
        let keyspaces : later.keyspaces ≡ before.keyspaces = keyspaces_stay before change kept in
        let each_kept : AllByRecursion (Keeps before later keyspaces) before.sequences =
        each_movement (λ x k. KeepsAt before later x k.replication) before.keyspaces before.sequences (at_each_token (λ x k. AllByRecursion (KeepsAt before later x k.replication) before.sequences) before.keyspaces keeps) in
        let there : AreLocksAt later (map plan_of old) table =
        old_locks before later keyspaces old table (subst (AllByRecursion (Keeps before later keyspaces)) (sym was) each_kept) (subst (λ rows. AreLocksOf before rows table) (sym was) had) in
        let sorted : IsStrictlySortedBy by_node later.sequences = subst (λ (i : Image). IsStrictlySortedBy by_node i.sequences) made up in
        let all : AreLocksAt later (plans_after (map plan_of old) change) (locks_after table change) = new_locks before change (map plan_of old) table kept permitted.makes.plan permitted.makes.follows sorted there in
        let each : AreLocksAt after (map plan_of new) (locks_after table change) = rw (made, plans) all in
        subst (λ rows. AreLocksOf after rows (locks_after table change)) is
        (have_locks after new (locks_after table change) (subst (AllByRecursion (λ s. movement_of after s.node ≡ Some s)) (sym is) (each_found after.sequences up)) each)
