-- What is read at a token in a valid image: it is placed by a ring whose tokens ascend, and it is written.
use Rattle.std.proofs.Common.{◌≡◌, ℕ, Bool, true, false, not, ◌&&◌, ◌||◌, ◌==◌, ℤ, List, filter, find, Option, Some, None, refl, sym, ap, ◌∙◌, arith}
use Rattle.std.proofs.lemmas.Bool.{or_left, or_right, true≢false}
use Rattle.std.proofs.lemmas.List.{append-nil}
use Rattle.std.specs.Cmp.{nat_cmp_total}
use Rattle.std.specs.List.{AllByRecursion, IsDistinct}
use Rattle.std.specs.Ordering.{nat_cmp}
use Rattle.cluster_terms.proofs.lists.AscendingLemmas.{member-put_all, put_all_sorted}
use Rattle.cluster_terms.proofs.placement.GroupLemmas.{has}
use Rattle.cluster_terms.proofs.placement.PlacedByReach.{place-same}
use Rattle.cluster_terms.proofs.placement.PlacementCounts.{IsRing, place_ascends}
use Rattle.cluster_terms.proofs.placement.PlacementLemmas.{tied}
use Rattle.cluster_terms.proofs.quorums.QuorumLemmas.{Ascend, AreAmong}
use Rattle.cluster_terms.specs.Arc.{IsToken}
use Rattle.cluster_terms.specs.Ascending.{put_all}
use Rattle.cluster_terms.specs.Group.{Group, place}
use Rattle.cluster_terms.specs.Pair.{has_pair}
use Rattle.cluster_terms.specs.Replication.{groups_of}
use Rattle.cluster_terms.specs.declared.replication.Replication.{Replication}
use Rattle.cluster_terms.specs.declared.token.Pair.{Pair}
use Rattle.transformations.proofs.movements.DoneLemmas.{has_done, owned_after}
use Rattle.transformations.proofs.movements.ExchangeLemmas.{IsExchange, exchange}
use Rattle.transformations.proofs.lists.ListLemmas.{all_found, all_weaker, none_found}
use Rattle.transformations.proofs.ranges.OutcomeLemmas.{are_outcomes, outcome_same, placed_by_ranges}
use Rattle.transformations.proofs.pairs.OwnedLemmas.{has_append, has_filter}
use Rattle.transformations.proofs.ranges.RangesKept.{apart_at}
use Rattle.transformations.proofs.movements.SoleLemmas.{distinct_each, filter_own, found_by_node, itself, one_passes}
use Rattle.transformations.specs.Ranges.{AgreeAt, SamePairs, in_ranges, outcome_ring, placed_after}
use Rattle.transformations.specs.Rings.{high_ring, incoming, is_mid, has_started, low_ring, outgoing, read_ring, reads_at, replaced, writes_at}
use Rattle.transformations.specs.Movements.{ring_after}
use Rattle.transformations.specs.Valid.{IsMovement, IsSound, IsValid}
use Rattle.transformations.specs.declared.image.Image.{Image}
use Rattle.transformations.specs.declared.keyspace.KeyspaceRow.{KeyspaceRow}
use Rattle.transformations.specs.declared.sequence.Phase.{Phase}
use Rattle.transformations.specs.declared.sequence.Phase.TheVariants.{Prepared, Started, Mid}
use Rattle.transformations.specs.declared.sequence.SeqRow.{SeqRow}

-- what is read is placed by a ring, and written
pub record IsServed (image : Image) (r : Replication) (x : ℤ) : Type 0 where
  pub ring : List Pair
  pub ascending : IsRing ring
  pub placed : reads_at image r x ≡ place (groups_of image.nodes r) x ring
  pub written : AreAmong (reads_at image r x) (writes_at image r x)

module _ (image : Image) (r : Replication) (x : ℤ) where
  pub reads_ascend : Ascend (reads_at image r x)
  unfolding reads_at
  reads_ascend = place_ascends (groups_of image.nodes r) x (read_ring image)

  pub writes_ascend : Ascend (writes_at image r x)
  unfolding writes_at
  writes_ascend =
      let gs : List Group = groups_of image.nodes r in
      put_all_sorted nat_cmp nat_cmp_total (place gs x (low_ring image)) (place gs x (high_ring image)) (place_ascends gs x (high_ring image))

  -- what the low and what the high ring places
  has_written : (v : ℕ) → has (writes_at image r x) v ≡ (has (place (groups_of image.nodes r) x (low_ring image)) v || has (place (groups_of image.nodes r) x (high_ring image)) v)
  unfolding writes_at
  has_written v =
      let low : List ℕ = place (groups_of image.nodes r) x (low_ring image) in
      let high : List ℕ = place (groups_of image.nodes r) x (high_ring image) in
      sym (tied (put_all nat_cmp low high) v) ∙ member-put_all nat_cmp nat_cmp_total low high v ∙ (λ i. tied low v i || tied high v i)

  low_written : reads_at image r x ≡ place (groups_of image.nodes r) x (low_ring image) → AreAmong (reads_at image r x) (writes_at image r x)
  low_written same v there =
      has_written v ∙ or_left (has (place (groups_of image.nodes r) x (low_ring image)) v) (has (place (groups_of image.nodes r) x (high_ring image)) v) (ap (λ l. has l v) (sym same) ∙ there)

  high_written : reads_at image r x ≡ place (groups_of image.nodes r) x (high_ring image) → AreAmong (reads_at image r x) (writes_at image r x)
  high_written same v there =
      has_written v ∙ or_right (has (place (groups_of image.nodes r) x (low_ring image)) v) (has (place (groups_of image.nodes r) x (high_ring image)) v) (ap (λ l. has l v) (sym same) ∙ there)

  -- ---- outcomes

  -- a ring with the pairs of an outcome places what it places
  placed_as : (ring : List Pair) (done : SeqRow → Bool) → SamePairs ring (outcome_ring image done) → place (groups_of image.nodes r) x ring ≡ placed_after image r x done
  placed_as ring done same = place-same (groups_of image.nodes r) x ring (outcome_ring image done) same

  abbrev mid : SeqRow → Bool
  mid s = is_mid s.phase

  module _ (h : IsSound image) where
    -- the reads are placed by each ring of an outcome that agrees on the movements that have x in their ranges
    reads_placed : (ring : List Pair) (done : SeqRow → Bool) → SamePairs ring (outcome_ring image done) → AgreeAt image r x mid done → reads_at image r x ≡ place (groups_of image.nodes r) x ring
    unfolding reads_at
    reads_placed ring done same agree =
        placed_as (read_ring image) mid (are_outcomes image h).read ∙ placed_by_ranges image h r x mid done agree ∙ sym (placed_as ring done same)

    by_low : AgreeAt image r x mid (λ s. false) → IsServed image r x
    by_low agree =
        let placed : reads_at image r x ≡ place (groups_of image.nodes r) x (low_ring image) = reads_placed (low_ring image) (λ s. false) (are_outcomes image h).low agree in
        record { ring = image.tokens; ascending = h.ring.ascending; placed = placed; written = low_written placed }

    -- ---- a movement that is done

    module _ (s : SeqRow) (found : find (λ (q : SeqRow). q.node == s.node) image.sequences ≡ Some s) where
      abbrev own : SeqRow → Bool
      own q = q.node == s.node

      fits : IsMovement image s
      fits = all_found (IsMovement image) (λ (q : SeqRow). q.node == s.node) image.sequences s found h.fitting

      swaps : IsExchange image s
      swaps = exchange image s h.ring fits

      -- the ring with its pairs swapped has the pairs of the outcome in which it alone is done
      pub replaced_own : SamePairs (replaced image.tokens s.out_pairs s.in_pairs) (outcome_ring image own)
      replaced_own p =
          sym (λ i. has_pair (replaced image.tokens (append-nil s.out_pairs i) (append-nil s.in_pairs i)) p)
          ∙ sym (ap (λ one. has_pair (replaced image.tokens (outgoing one) (incoming one)) p) (filter_own image.sequences s h.movements found))
          ∙ outcome_same image own h p

      -- and so has the ring that it leaves
      pub ring_own : SamePairs (ring_after image.tokens s) (outcome_ring image own)
      ring_own p =
          has_done image s h fits swaps found p
          ∙ turned (has_pair s.in_pairs p) (has_pair image.tokens p && not (has_pair s.out_pairs p))
          ∙ ap (λ b. b || has_pair s.in_pairs p) (sym (has_filter (λ q. not (has_pair s.out_pairs q)) image.tokens p))
          ∙ has_append (filter (λ q. not (has_pair s.out_pairs q)) image.tokens) s.in_pairs p
          ∙ replaced_own p
        where
          turned : (a b : Bool) → (a || b) ≡ (b || a)
          turned a b = grind arith

      by_high : mid s ≡ true → AgreeAt image r x mid own → AgreeAt image r x mid (λ q. has_started q.phase) → IsServed image r x
      by_high is agree_own agree_high =
          let placed : reads_at image r x ≡ place (groups_of image.nodes r) x (high_ring image) = reads_placed (high_ring image) (λ q. has_started q.phase) (are_outcomes image h).high agree_high in
          record {
            ring = ring_after image.tokens s;
            ascending = (owned_after image s h fits swaps found).ascending;
            placed = reads_placed (ring_after image.tokens s) own ring_own agree_own;
            written = high_written placed;
          }

-- ---- the movement that has x in its ranges

-- where it is the only one, the others don't matter
pub agree_for : (image : Image) (r : Replication) (x : ℤ) (s : SeqRow) → AllByRecursion (λ q. in_ranges image r q x ≡ true → q ≡ s) image.sequences
    → (one other : SeqRow → Bool) → one s ≡ other s → AgreeAt image r x one other
agree_for image r x s only one other same =
    all_weaker (λ (q : SeqRow). in_ranges image r q x ≡ true → q ≡ s) (λ (q : SeqRow). in_ranges image r q x ≡ true → one q ≡ other q)
    (λ q is here. ap one (is here) ∙ same ∙ sym (ap other (is here))) image.sequences only

agree_free : (image : Image) (r : Replication) (x : ℤ) → AllByRecursion (λ q. in_ranges image r q x ≡ false) image.sequences → (one other : SeqRow → Bool) → AgreeAt image r x one other
agree_free image r x free one other =
    all_weaker (λ (q : SeqRow). in_ranges image r q x ≡ false) (λ (q : SeqRow). in_ranges image r q x ≡ true → one q ≡ other q)
    (λ q out here. absurd (true≢false (sym here ∙ out))) image.sequences free

pub started_at_mid : (phase : Phase) → is_mid phase ≡ true → has_started phase ≡ true
started_at_mid Mid is = refl
started_at_mid Started is = refl
started_at_mid Prepared is = is

module _ (image : Image) (h : IsSound image) (r : Replication) (x : ℤ) (apart : IsDistinct (λ s q. in_ranges image r s x && in_ranges image r q x) image.sequences) where
  served_at : IsServed image r x
  served_at = by (find (λ (s : SeqRow). in_ranges image r s x) image.sequences) refl
    where
      phased : (s : SeqRow) → find (λ (q : SeqRow). in_ranges image r q x) image.sequences ≡ Some s → (b : Bool) → is_mid s.phase ≡ b → IsServed image r x
      phased s found true is =
          let only = one_passes (λ (q : SeqRow). in_ranges image r q x) image.sequences s found apart in
          let own = found_by_node (λ (q : SeqRow). in_ranges image r q x) image.sequences s h.movements found in
          by_high image r x h s own is
          (agree_for image r x s only (λ q. is_mid q.phase) (λ q. q.node == s.node) (is ∙ sym (itself s.node)))
          (agree_for image r x s only (λ q. is_mid q.phase) (λ q. has_started q.phase) (is ∙ sym (started_at_mid s.phase is)))
      phased s found false is =
          let only = one_passes (λ (q : SeqRow). in_ranges image r q x) image.sequences s found apart in
          by_low image r x h (agree_for image r x s only (λ q. is_mid q.phase) (λ q. false) is)

      by : (o : Option SeqRow) → find (λ (q : SeqRow). in_ranges image r q x) image.sequences ≡ o → IsServed image r x
      by None found = by_low image r x h (agree_free image r x (none_found (λ (q : SeqRow). in_ranges image r q x) image.sequences found) (λ q. is_mid q.phase) (λ q. false))
      by (Some s) found = phased s found (is_mid s.phase) refl

-- under each keyspace of a valid image
pub served : (image : Image) → IsValid image → (x : ℤ) → IsToken x → AllByRecursion (λ k. IsServed image k.replication x) image.keyspaces
served image h x token =
    all_weaker (λ (k : KeyspaceRow). IsDistinct (λ s q. in_ranges image k.replication s x && in_ranges image k.replication q x) image.sequences) (λ (k : KeyspaceRow). IsServed image k.replication x)
    (λ k apart. served_at image h.sound k.replication x apart) image.keyspaces
    (distinct_each (λ s q (k : KeyspaceRow). in_ranges image k.replication s x && in_ranges image k.replication q x) image.sequences image.keyspaces (apart_at image h x token))
