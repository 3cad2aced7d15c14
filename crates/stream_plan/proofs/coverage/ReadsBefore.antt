-- The nodes placed before a movement, by the nodes that are read. At a token in its ranges a movement is the only one that
-- the reads depend on.
use Rattle.std.proofs.Common.{◌≡◌, ℕ, Bool, true, false, not, ◌&&◌, ◌||◌, ◌==◌, ℤ, List, find, Option, Some, None, refl, sym, ap, ◌∙◌, arith}
use Rattle.std.proofs.lemmas.Bool.{true≢false}
use Rattle.std.proofs.lemmas.List.Elements.{All-contains, All-from_recursion}
use Rattle.std.proofs.lemmas.List.Kept.{IsStrictlySortedBy-filter}
use Rattle.std.proofs.lemmas.Map.Views.{exact_unsigned_eq}
use Rattle.std.specs.Cmp.{nat_cmp_total, unsigned_tied}
use Rattle.std.specs.List.{AllByRecursion, Contains, IsDistinct}
use Rattle.std.specs.Ordering.{is_eq, nat_cmp}
use Rattle.cluster_terms.proofs.lists.AscendingLemmas.{member-put_all, put_all_sorted, same_sorted}
use Rattle.cluster_terms.proofs.placement.GroupLemmas.{has}
use Rattle.cluster_terms.proofs.placement.PlacementCounts.{place_ascends}
use Rattle.cluster_terms.proofs.placement.PlacementLemmas.{tied}
use Rattle.cluster_terms.proofs.quorums.QuorumLemmas.{Ascend, has_filter}
use Rattle.cluster_terms.specs.Replication.{groups_of}
use Rattle.cluster_terms.specs.declared.replication.Replication.{Replication}
use Rattle.cluster_terms.specs.IdSets.{without}
use Rattle.cluster_terms.specs.IdSets.{with_change}
use Rattle.transformations.proofs.deltas.OutsideDeltas.{before_placed, is_own, with_placed}
use Rattle.transformations.proofs.lists.ListLemmas.{all_weaker, none_found}
use Rattle.transformations.proofs.movements.SoleLemmas.{found_own, itself, one_passes}
use Rattle.transformations.proofs.ranges.OutcomeLemmas.{placed_by_outcomes, placed_by_ranges}
use Rattle.transformations.specs.MovementDeltas.{gained_at, lost_at, newcomers, placed_before, placed_with}
use Rattle.transformations.specs.Ranges.{AgreeAt, in_ranges}
use Rattle.transformations.specs.Rings.{is_mid, low_ring, reads_at, replaced}
use Rattle.transformations.specs.Valid.{IsSound}
use Rattle.transformations.specs.declared.image.Image.{Image}
use Rattle.transformations.specs.declared.sequence.SeqRow.{SeqRow}
use Rattle.stream_plan.proofs.pairing.SourceLemmas.{has_new}
use Rattle.stream_plan.specs.code.RowSteps.{placed_first}

-- ---- sets

has_change : (nodes gained lost : List ℕ) (v : ℕ) → has (with_change nodes gained lost) v ≡ (has gained v || (has nodes v && not (has lost v)))
has_change nodes gained lost v =
    sym (tied (with_change nodes gained lost) v) ∙ member-put_all nat_cmp nat_cmp_total gained (without nodes lost) v
    ∙ (λ i. tied gained v i || (tied (without nodes lost) v ∙ has_filter (λ n. not (has lost n)) nodes v) i)

-- the nodes before are those after without the gained ones, and with the lost ones
pub undone : (before after : List ℕ) → Ascend before → Ascend after → with_change after (newcomers before after) (newcomers after before) ≡ before
undone before after low high =
    let gained : List ℕ = newcomers after before in
    let lost : List ℕ = newcomers before after in
    same_sorted nat_cmp nat_cmp_total (λ n m e. exact_unsigned_eq n m (sym (unsigned_tied n m) ∙ ap is_eq e)) (with_change after lost gained) before
    (put_all_sorted nat_cmp nat_cmp_total lost (without after gained) (IsStrictlySortedBy-filter nat_cmp (λ n. not (has gained n)) after high)) low
    (λ v. tied (with_change after lost gained) v ∙ has_change after lost gained v
    ∙ (λ i. has_new before after v i || (has after v && not (has_new after before v i)))
    ∙ table (has before v) (has after v) ∙ sym (tied before v))
  where
    table : (p f : Bool) → ((p && not f) || (f && not (f && not p))) ≡ p
    table p f = grind arith

-- ---- the only movement with a token in its ranges

only : (test : SeqRow → Bool) (sequences : List SeqRow) (s : SeqRow) → IsDistinct (λ q r. test q && test r) sequences → Contains sequences s → test s ≡ true → AllByRecursion (λ q. test q ≡ true → q ≡ s) sequences
only test sequences s apart there passes = by (find test sequences) refl
  where
    by : (o : Option SeqRow) → find test sequences ≡ o → AllByRecursion (λ q. test q ≡ true → q ≡ s) sequences
    by None found =
        let none = All-contains (λ q. test q ≡ false) sequences s (All-from_recursion (λ q. test q ≡ false) sequences (none_found test sequences found)) there in
        absurd (true≢false (sym passes ∙ none))
    by (Some t) found =
        let all = one_passes test sequences t found apart in
        let same : s ≡ t = All-contains (λ q. test q ≡ true → q ≡ t) sequences s (All-from_recursion (λ q. test q ≡ true → q ≡ t) sequences all) there passes in
        all_weaker (λ q. test q ≡ true → q ≡ t) (λ q. test q ≡ true → q ≡ s) (λ q is here. is here ∙ sym same) sequences all

module _ (image : Image) (h : IsSound image) (r : Replication) (s : SeqRow) (x : ℤ) (there : Contains image.sequences s)
    (apart : IsDistinct (λ q t. in_ranges image r q x && in_ranges image r t x) image.sequences) where
  found : find (λ (q : SeqRow). q.node == s.node) image.sequences ≡ Some s
  found = found_own image.sequences s h.movements there

  before_up : Ascend (placed_before image r x)
  unfolding placed_before
  before_up = place_ascends (groups_of image.nodes r) x (low_ring image)

  with_up : Ascend (placed_with image r s x)
  unfolding placed_with
  with_up = place_ascends (groups_of image.nodes r) x (replaced (low_ring image) s.out_pairs s.in_pairs)

  agree : in_ranges image r s x ≡ true → (other : SeqRow → Bool) → is_mid s.phase ≡ other s → AgreeAt image r x (λ q. is_mid q.phase) other
  agree inside other same =
      all_weaker (λ q. in_ranges image r q x ≡ true → q ≡ s) (λ q. in_ranges image r q x ≡ true → is_mid q.phase ≡ other q)
      (λ q is here. ap (λ (t : SeqRow). is_mid t.phase) (is here) ∙ same ∙ sym (ap other (is here)))
      image.sequences (only (λ q. in_ranges image r q x) image.sequences s apart there inside)

  reads_low : in_ranges image r s x ≡ true → is_mid s.phase ≡ false → reads_at image r x ≡ placed_before image r x
  reads_low inside phase =
      (placed_by_outcomes image h).reads r x ∙ placed_by_ranges image h r x (λ q. is_mid q.phase) (λ q. false) (agree inside (λ q. false) phase) ∙ sym (before_placed image h r x)

  reads_with : in_ranges image r s x ≡ true → is_mid s.phase ≡ true → reads_at image r x ≡ placed_with image r s x
  reads_with inside phase =
      (placed_by_outcomes image h).reads r x ∙ placed_by_ranges image h r x (λ q. is_mid q.phase) (is_own s) (agree inside (is_own s) (phase ∙ sym (itself s.node))) ∙ sym (with_placed image h r x s found)

  pub first_inside : in_ranges image r s x ≡ true → placed_first (is_mid s.phase) (reads_at image r x) (gained_at image r s x) (lost_at image r s x) ≡ placed_before image r x
  first_inside inside = by (is_mid s.phase) refl
    where
      by : (b : Bool) → is_mid s.phase ≡ b → placed_first b (reads_at image r x) (gained_at image r s x) (lost_at image r s x) ≡ placed_before image r x
      by false e = reads_low inside e
      by true e =
          ap (λ ns. with_change ns (lost_at image r s x) (gained_at image r s x)) (reads_with inside e)
          ∙ undone (placed_before image r x) (placed_with image r s x) before_up with_up
