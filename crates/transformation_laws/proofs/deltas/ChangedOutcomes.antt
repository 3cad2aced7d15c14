-- Reads and writes that are placed after other outcomes of an image, which differ in one movement: they change by a
-- delta of the movement.
use Rattle.std.proofs.Common.{◌≡◌, ℕ, Bool, true, false, true≢false, ◌&&◌, ◌==◌, ℤ, List, [], find, Some, refl, sym, ap, ◌∙◌, subst}
use Rattle.std.specs.List.{AllByRecursion}
use Rattle.std.specs.Ordering.{nat_cmp}
use Rattle.cluster_terms.proofs.placement.PlacementCounts.{place_ascends}
use Rattle.cluster_terms.proofs.quorums.QuorumLemmas.{Ascend}
use Rattle.cluster_terms.specs.Ascending.{put_all}
use Rattle.cluster_terms.specs.Replication.{groups_of}
use Rattle.cluster_terms.specs.declared.replication.Replication.{Replication}
use Rattle.transformations.proofs.deltas.OutsideDeltas.{agree_outside, before_placed, is_own, newcomers_none, same_outside, with_placed}
use Rattle.transformation_laws.proofs.deltas.SetChanges.{Turns, changed_none, picked}
use Rattle.transformations.proofs.lists.ListLemmas.{all_both}
use Rattle.transformations.proofs.movements.SoleLemmas.{itself, only_own}
use Rattle.transformations.proofs.quorums.ServedLemmas.{agree_for}
use Rattle.transformations.proofs.ranges.OutcomeLemmas.{placed_by_outcomes, placed_by_ranges}
use Rattle.transformations.specs.DeltaSteps.{AreChanged, PlacementDelta, with_delta, no_changes}
use Rattle.transformations.specs.MovementDeltas.{gained_at, lost_at, placed_before, placed_with}
use Rattle.transformations.specs.Ranges.{in_ranges, placed_after}
use Rattle.transformations.specs.Rings.{has_started, is_mid, low_ring, reads_at, replaced, writes_at}
use Rattle.transformations.specs.Valid.{IsSound}
use Rattle.transformations.specs.declared.image.Image.{Image}
use Rattle.transformations.specs.declared.sequence.SeqRow.{SeqRow}

-- which movements are done in the outcome of the reads, and in the two of the writes
pub record Outcomes : Type 0 where
  pub low : SeqRow → Bool
  pub read : SeqRow → Bool
  pub high : SeqRow → Bool

-- what is read and written in an image is placed after these outcomes of another
pub record ArePlacedAfter (image after : Image) (r : Replication) (x : ℤ) (o : Outcomes) : Type 0 where
  pub reads : reads_at after r x ≡ placed_after image r x o.read
  pub writes : writes_at after r x ≡ put_all nat_cmp (placed_after image r x o.low) (placed_after image r x o.high)

-- outcomes that differ in the movement s at most from those of the image that has it; and whether it is done in them
pub record OnlyFor (s : SeqRow) (o : Outcomes) (low read high : Bool) : Type 0 where
  pub others_low : (q : SeqRow) → is_own s q ≡ false → o.low q ≡ false
  pub others_read : (q : SeqRow) → is_own s q ≡ false → o.read q ≡ is_mid q.phase
  pub others_high : (q : SeqRow) → is_own s q ≡ false → o.high q ≡ has_started q.phase
  pub own_low : o.low s ≡ low
  pub own_read : o.read s ≡ read
  pub own_high : o.high s ≡ high

-- the same is read and written as before
pub none_changed : (image after : Image) (r : Replication) (x : ℤ) → reads_at after r x ≡ reads_at image r x → writes_at after r x ≡ writes_at image r x → AreChanged image after r x no_changes
none_changed image after r x reads writes = record { reads = reads ∙ changed_none (reads_at image r x); writes = writes ∙ changed_none (writes_at image r x) }

module _ (image : Image) (h : IsSound image) (r : Replication) (x : ℤ) where
  before_ascends : Ascend (placed_before image r x)
  unfolding placed_before
  before_ascends = place_ascends (groups_of image.nodes r) x (low_ring image)

  with_ascends : (s : SeqRow) → Ascend (placed_with image r s x)
  unfolding placed_with
  with_ascends s = place_ascends (groups_of image.nodes r) x (replaced (low_ring image) s.out_pairs s.in_pairs)

  module _ (s : SeqRow) (found : find (λ (q : SeqRow). q.node == s.node) image.sequences ≡ Some s) where
    -- if x is in the ranges of the movement, it is in those of no other
    only_inside : AllByRecursion (λ q. is_own s q ≡ false → (in_ranges image r s x && in_ranges image r q x) ≡ false) image.sequences → in_ranges image r s x ≡ true
        → AllByRecursion (λ q. in_ranges image r q x ≡ true → q ≡ s) image.sequences
    only_inside apart inside =
        all_both (λ q. is_own s q ≡ false → (in_ranges image r s x && in_ranges image r q x) ≡ false) (λ q. is_own s q ≡ true → q ≡ s) (λ q. in_ranges image r q x ≡ true → q ≡ s)
        (λ q away own here. by q away own here (is_own s q) refl) image.sequences apart (only_own s.node image.sequences s h.movements found)
      where
        by : (q : SeqRow) → (is_own s q ≡ false → (in_ranges image r s x && in_ranges image r q x) ≡ false) → (is_own s q ≡ true → q ≡ s) → in_ranges image r q x ≡ true
            → (b : Bool) → is_own s q ≡ b → q ≡ s
        by q away own here true e = own e
        by q away own here false e = absurd (true≢false (sym (λ i. inside i && here i) ∙ away e))

    -- so an outcome places what is placed with it, if it is done, and what is placed before it, if not
    placed_picked : AllByRecursion (λ q. in_ranges image r q x ≡ true → q ≡ s) image.sequences → (done : SeqRow → Bool) (b : Bool) → done s ≡ b
        → placed_after image r x done ≡ picked (placed_before image r x) (placed_with image r s x) b
    placed_picked only done true e =
        placed_by_ranges image h r x done (is_own s) (agree_for image r x s only done (is_own s) (e ∙ sym (itself s.node))) ∙ sym (with_placed image h r x s found)
    placed_picked only done false e = placed_by_ranges image h r x done (λ q. false) (agree_for image r x s only done (λ q. false) e) ∙ sym (before_placed image h r x)

    module _ (after : Image) (o : Outcomes) (placed : ArePlacedAfter image after r x o) (delta : List ℕ → List ℕ → PlacementDelta) (empty : delta [] [] ≡ no_changes)
        (low read high : Bool) (differ : OnlyFor s o low read high) where
      -- outside its ranges nothing changes
      changed_outside : in_ranges image r s x ≡ false → AreChanged image after r x (delta (gained_at image r s x) (lost_at image r s x))
      changed_outside outside =
          let now = placed_by_outcomes image h in
          let same : placed_with image r s x ≡ placed_before image r x = same_outside image h r x s found outside in
          let gained : gained_at image r s x ≡ [] = newcomers_none (placed_with image r s x) (placed_before image r x) same in
          let lost : lost_at image r s x ≡ [] = newcomers_none (placed_before image r x) (placed_with image r s x) (sym same) in
          subst (AreChanged image after r x) (sym ((λ i. delta (gained i) (lost i)) ∙ empty))
          (none_changed image after r x
          (placed.reads ∙ alike o.read (λ q. is_mid q.phase) differ.others_read ∙ sym (now.reads r x))
          (placed.writes ∙ (λ i. put_all nat_cmp (alike o.low (λ q. false) differ.others_low i) (alike o.high (λ q. has_started q.phase) differ.others_high i)) ∙ sym (now.writes r x)))
        where
          alike : (one other : SeqRow → Bool) → ((q : SeqRow) → is_own s q ≡ false → one q ≡ other q) → placed_after image r x one ≡ placed_after image r x other
          alike one other same = placed_by_ranges image h r x one other (agree_outside image r x s one other (only_own s.node image.sequences s h.movements found) outside same)

      -- within them all is placed before it or with it
      changed_inside : Turns delta (is_mid s.phase) (has_started s.phase) low read high (placed_before image r x) (placed_with image r s x)
          → AllByRecursion (λ q. in_ranges image r q x ≡ true → q ≡ s) image.sequences → AreChanged image after r x (delta (gained_at image r s x) (lost_at image r s x))
      changed_inside turns only =
          let now = placed_by_outcomes image h in
          let was_read = now.reads r x ∙ placed_picked only (λ q. is_mid q.phase) (is_mid s.phase) refl in
          let was_low = placed_picked only (λ q. false) false refl in
          let was_high = placed_picked only (λ q. has_started q.phase) (has_started s.phase) refl in
          let is_read = placed_picked only o.read read differ.own_read in
          let is_low = placed_picked only o.low low differ.own_low in
          let is_high = placed_picked only o.high high differ.own_high in
          let d : PlacementDelta = delta (gained_at image r s x) (lost_at image r s x) in
          record {
            reads = placed.reads ∙ is_read ∙ turns.reads ∙ ap (λ l. with_delta l d.reads) (sym was_read);
            writes = placed.writes ∙ (λ i. put_all nat_cmp (is_low i) (is_high i)) ∙ turns.writes
                ∙ sym (λ i. with_delta (put_all nat_cmp (was_low i) (was_high i)) d.writes) ∙ ap (λ l. with_delta l d.writes) (sym (now.writes r x));
          }

      pub changed_at : ((before applied : List ℕ) → Ascend before → Ascend applied → Turns delta (is_mid s.phase) (has_started s.phase) low read high before applied)
          → AllByRecursion (λ q. is_own s q ≡ false → (in_ranges image r s x && in_ranges image r q x) ≡ false) image.sequences
          → AreChanged image after r x (delta (gained_at image r s x) (lost_at image r s x))
      changed_at turns apart = by (in_ranges image r s x) refl
        where
          by : (b : Bool) → in_ranges image r s x ≡ b → AreChanged image after r x (delta (gained_at image r s x) (lost_at image r s x))
          by true inside = changed_inside (turns (placed_before image r x) (placed_with image r s x) before_ascends (with_ascends s)) (only_inside apart inside)
          by false outside = changed_outside outside
