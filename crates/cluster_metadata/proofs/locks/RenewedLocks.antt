-- The locks that movements have under other keyspaces: the first overlap among them is the refusal.
use Rattle.std.proofs.Common.{◌≡◌, ℕ, ◌+◌, ◌<◌, false, ℤ, List, [], ◌∷◌, ◌++◌, get_or, length, map, take, Option, Some, None, option_map, refl, sym, ap, ◌∙◌, subst, arith}
use Rattle.std.proofs.lemmas.List.{map-append, take_more}
use Rattle.std.proofs.lemmas.List.Elements.{All-from_recursion}
use Rattle.std.proofs.lemmas.List.Kept.{AllPairs-cons}
use Rattle.std.specs.List.{AllByRecursion, AllPairs, Contains, IsDistinct}
use Rattle.std.proofs.lemmas.Cmp.{int_cmp_total}
use Rattle.std.specs.List.Sorted.{IsStrictlySortedBy}
use Rattle.std.specs.Option.{option_or}
use Rattle.std.specs.Ordering.{int_cmp}
use Rattle.cluster_terms.proofs.lists.AscendingLemmas.{ascending_sorted}
use Rattle.cluster_terms.specs.Arc.{IsToken}
use Rattle.cluster_terms.specs.declared.token.Pair.{Pair}
use Rattle.cluster_terms.specs.declared.token.RightEnd.{RightEnd}
use Rattle.locked_ranges.specs.Conflict.{conflict_of, overlap_among}
use Rattle.locked_ranges.specs.Sharing.{ShareNoToken}
use Rattle.locked_ranges.specs.Table.{lock_row}
use Rattle.placement_deltas.specs.declared.plan.Plan.{Plan}
use Rattle.sequence_plans.specs.Locks.{AreLocksOf}
use Rattle.sequence_plans.specs.Plan.{AreLocks, IsLockRow, IsPlan}
use Rattle.sequence_plans.specs.PlanDeltas.{HasDeltas}
use Rattle.token_ring.specs.declared.range_book.LockRow.{LockRow}
use Rattle.transformations.proofs.ranges.MovementsApart.{both_at, distinct_from_pairs}
use Rattle.transformations.specs.Ranges.{AreApart, in_both, in_ranges}
use Rattle.transformations.specs.Refusals.{first_of, first_overlap, overlap_of, with_movement}
use Rattle.transformations.specs.Rings.{cuts, widest}
use Rattle.transformations.specs.Valid.{IsSound}
use Rattle.transformations.specs.declared.image.Image.{Image}
use Rattle.transformations.specs.declared.refusal.Refusal.{Refusal}
use Rattle.transformations.specs.declared.refusal.Refusal.TheVariants.{KeyspaceLocked}
use Rattle.transformations.specs.declared.sequence.Phase.TheVariants as phase
use Rattle.transformations.specs.declared.sequence.SeqRow.{SeqRow}
use Rattle.cluster_metadata.proofs.in_flight.PlanLemmas.{deltas_elsewhere}
use Rattle.cluster_metadata.proofs.locks.LockLemmas.{conflict_shown}
use Rattle.cluster_metadata.proofs.locks.LocksResumed.{locks_more, locks_of, row_planned}
use Rattle.cluster_metadata.proofs.locks.LocksTaken.{all_apart, at_tokens}
use Rattle.cluster_metadata.specs.code.Change.{AreRenewed, AreReplanned, in_phase, kept_plan}
use Rattle.cluster_metadata.specs.declared.movements.renewing.Renewed.{Renewed}

-- ---- the first overlap

pub cuts_sorted : (image : Image) → IsStrictlySortedBy int_cmp (cuts image)
cuts_sorted image = ascending_sorted int_cmp int_cmp_total (map (λ (p : Pair). p.token) (widest image))

-- the refusal that shows an overlap
abbrev pub overlap_shown : Option (ℕ × ℕ × RightEnd) → Option Refusal
overlap_shown o = option_map (λ (at : ℕ × ℕ × RightEnd). KeyspaceLocked at.0 at.1 at.2) o

last_alone : (o : Option Refusal) → first_of (None ∷ o ∷ []) ≡ o
last_alone None = refl
last_alone (Some r) = refl

pub overlapping_found : (image : Image) → AllByRecursion IsToken (cuts image) → (rows : List SeqRow) (locks : List LockRow) → AreLocks image rows locks → overlap_shown (overlap_among locks (cuts image)) ≡ first_overlap image rows
overlapping_found image tokens [] [] are = refl
overlapping_found image tokens [] (l ∷ locks) are = absurd are
overlapping_found image tokens (s ∷ rows) [] are = absurd are
overlapping_found image tokens (s ∷ rows) (l ∷ locks) are =
    by (conflict_of l.ranges locks (cuts image)) (conflict_shown image tokens (KeyspaceLocked s.node) s l.ranges rows locks are.0.ranges are.1) (overlapping_found image tokens rows locks are.1)
  where
    by : (o : Option (ℕ × RightEnd)) → option_map (λ (at : ℕ × RightEnd). KeyspaceLocked s.node at.0 at.1) o ≡ first_of (map (overlap_of image s) rows)
        → overlap_shown (overlap_among locks (cuts image)) ≡ first_overlap image rows
        → overlap_shown (option_or (option_map (λ (c : ℕ × RightEnd). (l.node, c.0, c.1)) o) (overlap_among locks (cuts image))) ≡ first_of (first_of (map (overlap_of image s) rows) ∷ first_overlap image rows ∷ [])
    by None here rest = rest ∙ sym (last_alone (first_overlap image rows)) ∙ ap (λ (r : Option Refusal). first_of (r ∷ first_overlap image rows ∷ [])) here
    by (Some c) here rest = (λ i. Some (KeyspaceLocked (are.0.node i) c.0 c.1)) ∙ ap (λ (r : Option Refusal). first_of (r ∷ first_overlap image rows ∷ [])) here

-- it doesn't depend on the epoch
pub overlap_later : (image : Image) (epoch : ℕ) (rows : List SeqRow) → first_overlap (record image { epoch = epoch }) rows ≡ first_overlap image rows
unfolding in_ranges
overlap_later image epoch [] = refl
overlap_later image epoch (s ∷ rows) = ap (λ (o : Option Refusal). first_of (first_of (map (overlap_of image s) rows) ∷ o ∷ [])) (overlap_later image epoch rows)

-- ---- one plan after another

module _ (image : Image) (sound : IsSound image) (s : SeqRow) (there : Contains image.sequences s) (plan : Plan) (is : IsPlan (with_movement image (in_phase phase.Prepared s)) (in_phase phase.Prepared s) plan) where
  lock_planned : IsLockRow image s (lock_row s.node plan.ranges)
  lock_planned = subst (λ (q : SeqRow). IsLockRow image s (lock_row q.node plan.ranges)) is.row (row_planned phase.Prepared image s plan sound there is)

  pub locks_next : (rows : List SeqRow) (locks : List LockRow) → AreLocks image rows locks → AreLocks image (rows ++ s ∷ []) (locks ++ lock_row s.node plan.ranges ∷ [])
  locks_next rows locks are = locks_more image rows locks s (lock_row s.node plan.ranges) are lock_planned

  pub rows_next : (rows : List SeqRow) (plans : List Plan) → map (λ p. p.row) plans ≡ map (in_phase phase.Prepared) rows
      → map (λ p. p.row) (plans ++ kept_plan plan ∷ []) ≡ map (in_phase phase.Prepared) (rows ++ s ∷ [])
  rows_next rows plans same =
      map-append (λ (p : Plan). p.row) plans (kept_plan plan ∷ []) ∙ (λ i. same i ++ is.row i ∷ []) ∙ sym (map-append (in_phase phase.Prepared) rows (s ∷ []))

  pub deltas_next : (plans : List Plan) → AllByRecursion (HasDeltas image) plans → AllByRecursion (HasDeltas image) (plans ++ kept_plan plan ∷ [])
  deltas_next [] all = (deltas_elsewhere (with_movement image (in_phase phase.Prepared s)) image.epoch image.sequences plan is.deltas, tt)
  deltas_next (p ∷ plans) all = (all.0, deltas_next plans all.1)

pub rows_taken : (rows : List SeqRow) (i : ℕ) (s : SeqRow) → i < length rows → s ≡ get_or rows i s → take (i + 1) rows ≡ take i rows ++ s ∷ []
rows_taken rows i s within here = take_more rows i s within ∙ ap (λ (q : SeqRow). take i rows ++ q ∷ []) (sym here)

pub row_there : (rows : List SeqRow) (i : ℕ) (s : SeqRow) → i < length rows → s ≡ get_or rows i s → Contains rows s
row_there rows i s within here = (i, within, sym here)

-- ---- locks of movements that are apart

each_apart : (image : Image) (rows : List SeqRow) (table : List LockRow) → ((x : ℤ) → IsToken x → IsDistinct (both_at image x) rows) → AreLocksOf image rows table → AllPairs (λ one other. ShareNoToken one.ranges other.ranges) table
unfolding IsDistinct
each_apart image [] [] apart are = λ i j d before within. absurd (omega arith)
each_apart image [] (l ∷ table) apart are = absurd are
each_apart image (s ∷ rows) [] apart are = absurd are
each_apart image (s ∷ rows) (l ∷ table) apart are =
    AllPairs-cons (λ (one other : LockRow). ShareNoToken one.ranges other.ranges) l table
    (All-from_recursion (λ (o : LockRow). ShareNoToken l.ranges o.ranges) table
    (all_apart image s rows l table are.0 are.1 (at_tokens (λ x q. in_both image s q x ≡ false) rows (λ x token. (apart x token).0))))
    (each_apart image rows table (λ x token. (apart x token).1) are.1)

-- where no two movements overlap, no two of the new locks do
pub renewed_apart : (image : Image) (renewed : Renewed) → AreReplanned image renewed → AreApart image → AreRenewed image renewed
renewed_apart image renewed are apart =
    let locks : AreLocksOf image image.sequences renewed.locks = locks_of image image.sequences renewed.locks are.locks in
    record {
      rows = are.rows;
      deltas = are.deltas;
      locks = locks;
      apart = each_apart image image.sequences renewed.locks (λ x token. distinct_from_pairs (both_at image x) image.sequences (apart x token)) locks;
    }

pub renewed_compared : (image : Image) (renewed : Renewed) → AreReplanned image renewed → AllPairs (λ one other. ShareNoToken one.ranges other.ranges) renewed.locks → AreRenewed image renewed
renewed_compared image renewed are apart = record {
  rows = are.rows;
  deltas = are.deltas;
  locks = locks_of image image.sequences renewed.locks are.locks;
  apart = apart;
}
