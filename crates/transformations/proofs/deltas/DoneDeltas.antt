-- A movement keeps its deltas where another is done.
use Rattle.std.proofs.Common.{◌≡◌, ℕ, Bool, true, false, not, ◌&&◌, ◌||◌, ◌==◌, ℤ, List, [], ◌∷◌, filter, find, Some, refl, sym, ap, ◌∙◌, arith}
use Rattle.std.proofs.Math.Bool.{and_comm}
use Rattle.std.proofs.lemmas.Bool.{or_right}
use Rattle.std.proofs.lemmas.Bool.Decides.{nat_tests}
use Rattle.std.proofs.lemmas.List.{append-nil}
use Rattle.std.proofs.lemmas.List.Kept.{IsStrictlySortedBy-filter}
use Rattle.std.specs.List.{AllByRecursion, IsDistinct}
use Rattle.cluster_terms.proofs.placement.PlacedByReach.{place-same}
use Rattle.cluster_terms.specs.Arc.{IsToken}
use Rattle.cluster_terms.specs.Group.{place}
use Rattle.cluster_terms.specs.Pair.{has_pair}
use Rattle.cluster_terms.specs.Replication.{groups_of}
use Rattle.cluster_terms.specs.declared.replication.Replication.{Replication}
use Rattle.cluster_terms.specs.declared.token.Pair.{Pair}
use Rattle.transformations.proofs.deltas.KeptDeltas.{HasKept}
use Rattle.transformations.proofs.deltas.OutsideDeltas.{agree_inside, agree_outside, before_placed, is_own, newcomers_none, same_outside, with_placed}
use Rattle.transformations.proofs.lists.FilterLemmas.{filter_alike}
use Rattle.transformations.proofs.lists.ListLemmas.{all_weaker}
use Rattle.transformations.proofs.movements.DoneLemmas.{done}
use Rattle.transformations.proofs.movements.DoneRings.{found_among, ring_same}
use Rattle.transformations.proofs.movements.MovementLemmas.{others_apart}
use Rattle.transformations.proofs.movements.SoleLemmas.{distinct_each, each_found, filter_own, itself, only_own}
use Rattle.transformations.proofs.nodes.NodeLemmas.{groups_left}
use Rattle.transformations.proofs.quorums.ServedLemmas.{ring_own}
use Rattle.transformations.proofs.ranges.MovementsApart.{found_apart}
use Rattle.transformations.proofs.ranges.OutcomeLemmas.{outcome_same, placed_by_ranges}
use Rattle.transformations.proofs.ranges.RangesKept.{apart_at}
use Rattle.transformations.specs.MovementDeltas.{SameDeltas, newcomers, placed_before, placed_with}
use Rattle.transformations.specs.Orders.{by_node}
use Rattle.transformations.specs.Ranges.{in_ranges, outcome_ring, placed_after}
use Rattle.transformations.specs.Rings.{incoming, outgoing, replaced}
use Rattle.transformations.specs.Movements.{leaver, others, ring_after}
use Rattle.transformations.specs.Valid.{IsSound, IsValid}
use Rattle.transformations.specs.declared.image.Image.{Image}
use Rattle.transformations.specs.declared.keyspace.KeyspaceRow.{KeyspaceRow}
use Rattle.transformations.specs.declared.sequence.SeqRow.{SeqRow}

-- a node that is one isn't another
apart_nodes : (k n m : ℕ) → (n == m) ≡ false → (k == n) ≡ true → (k == m) ≡ false
apart_nodes k n m other same = grind (arith, nat_tests)

plain : (a b : Bool) → b ≡ false → a ≡ (a || b)
plain true b none = refl
plain false b none = sym none

-- t is done, and s goes on
module _ (image : Image) (h : IsSound image) (t : SeqRow) (epoch : ℕ) (t_found : find (λ (q : SeqRow). q.node == t.node) image.sequences ≡ Some t)
    (s : SeqRow) (s_found : find (λ (q : SeqRow). q.node == s.node) image.sequences ≡ Some s) (other : (s.node == t.node) ≡ false) where
  abbrev after : Image
  after = done image t epoch

  -- the outcome in which these two are done
  abbrev either : SeqRow → Bool
  either q = is_own t q || is_own s q

  either_first : either t ≡ true
  either_first = ap (λ b. b || is_own s t) (itself t.node)

  abbrev rest : List SeqRow
  rest = others image.sequences t.node

  -- of the movements that go on, s alone
  rest_own : filter either rest ≡ s ∷ []
  rest_own =
      filter_alike either (is_own s) rest (all_weaker (λ (q : SeqRow). (q.node == t.node) ≡ false) (λ (q : SeqRow). either q ≡ is_own s q) (λ q away. ap (λ b. b || is_own s q) away) rest (others_apart t.node image.sequences))
      ∙ filter_own rest s (IsStrictlySortedBy-filter by_node (λ (q : SeqRow). not (q.node == t.node)) image.sequences h.movements)
      (found_among (λ (q : SeqRow). q.node == s.node) (λ (q : SeqRow). not (q.node == t.node)) image.sequences s s_found (ap not other))

  -- the ring that t leaves, with s applied, has the pairs of this outcome
  ring_either : (p : Pair) → has_pair (replaced (ring_after image.tokens t) s.out_pairs s.in_pairs) p ≡ has_pair (outcome_ring image either) p
  ring_either p =
      sym (λ i. has_pair (replaced (ring_after image.tokens t) (append-nil s.out_pairs i) (append-nil s.in_pairs i)) p)
      ∙ sym (ap (λ one. has_pair (replaced (ring_after image.tokens t) (outgoing one) (incoming one)) p) rest_own)
      ∙ sym (ring_same image t t_found h either either_first p)
      ∙ outcome_same image either h p

  module _ (r : Replication) (x : ℤ) where
    before_done : placed_before after r x ≡ placed_after image r x (is_own t)
    unfolding placed_before
    before_done =
        place-same (groups_of after.nodes r) x (ring_after image.tokens t) (outcome_ring image (is_own t)) (ring_own image r x h t t_found)
        ∙ ap (λ gs. place gs x (outcome_ring image (is_own t))) (sym (groups_left image.nodes (leaver t) r))

    with_done : placed_with after r s x ≡ placed_after image r x either
    unfolding placed_with
    with_done =
        place-same (groups_of after.nodes r) x (replaced (ring_after image.tokens t) s.out_pairs s.in_pairs) (outcome_ring image either) ring_either
        ∙ ap (λ gs. place gs x (outcome_ring image either)) (sym (groups_left image.nodes (leaver t) r))

    -- within its ranges the same is placed as before
    module _ (apart : AllByRecursion (λ q. is_own s q ≡ false → (in_ranges image r s x && in_ranges image r q x) ≡ false) image.sequences) (inside : in_ranges image r s x ≡ true) where
      before_inside : placed_before image r x ≡ placed_before after r x
      before_inside =
          before_placed image h r x
          ∙ placed_by_ranges image h r x (λ q. false) (is_own t) (agree_inside image r x s (λ q. false) (is_own t) apart inside (λ q own. sym (apart_nodes q.node s.node t.node other own)))
          ∙ sym before_done

      with_inside : placed_with image r s x ≡ placed_with after r s x
      with_inside =
          with_placed image h r x s s_found
          ∙ placed_by_ranges image h r x (is_own s) either (agree_inside image r x s (is_own s) either apart inside (λ q own. own ∙ sym (or_right (is_own t q) (is_own s q) own)))
          ∙ sym with_done

    -- outside them the movement changes nothing, before and after
    after_outside : in_ranges image r s x ≡ false → placed_before after r x ≡ placed_with after r s x
    after_outside outside =
        before_done
        ∙ placed_by_ranges image h r x (is_own t) either
        (agree_outside image r x s (is_own t) either (only_own s.node image.sequences s h.movements s_found) outside (λ q away. plain (is_own t q) (is_own s q) away))
        ∙ sym with_done

    same_done : AllByRecursion (λ q. is_own s q ≡ false → (in_ranges image r s x && in_ranges image r q x) ≡ false) image.sequences → SameDeltas image after r x s s
    same_done apart = by (in_ranges image r s x) refl
      where
        by : (b : Bool) → in_ranges image r s x ≡ b → SameDeltas image after r x s s
        by true inside =
            let low = before_inside apart inside in
            let high = with_inside apart inside in
            record { gained = λ i. newcomers (high i) (low i); lost = λ i. newcomers (low i) (high i) }
        by false outside =
            let first : placed_with image r s x ≡ placed_before image r x = same_outside image h r x s s_found outside in
            let later : placed_before after r x ≡ placed_with after r s x = after_outside outside in
            record {
              gained = newcomers_none (placed_with image r s x) (placed_before image r x) first
                  ∙ sym (newcomers_none (placed_with after r s x) (placed_before after r x) (sym later));
              lost = newcomers_none (placed_before image r x) (placed_with image r s x) (sym first)
                  ∙ sym (newcomers_none (placed_before after r x) (placed_with after r s x) later);
            }

-- under each keyspace of a valid image
module _ (image : Image) (h : IsValid image) (t : SeqRow) (epoch : ℕ) (t_found : find (λ (q : SeqRow). q.node == t.node) image.sequences ≡ Some t) (x : ℤ) (token : IsToken x) where
  done_at : (s : SeqRow) → find (λ (q : SeqRow). q.node == s.node) image.sequences ≡ Some s → (s.node == t.node) ≡ false → HasKept image (done image t epoch) x s
  done_at s found other =
      all_weaker (λ (k : KeyspaceRow). IsDistinct (λ a b. in_ranges image k.replication a x && in_ranges image k.replication b x) image.sequences)
      (λ (k : KeyspaceRow). SameDeltas image (done image t epoch) k.replication x s s)
      (λ k apart. same_done image h.sound t epoch t_found s found other k.replication x
      (found_apart (λ a b. in_ranges image k.replication a x && in_ranges image k.replication b x) (λ a b. and_comm (in_ranges image k.replication a x) (in_ranges image k.replication b x)) s.node image.sequences s found apart))
      image.keyspaces
      (distinct_each (λ a b (k : KeyspaceRow). in_ranges image k.replication a x && in_ranges image k.replication b x) image.sequences image.keyspaces (apart_at image h x token))

  pub deltas_done : AllByRecursion (λ s. (s.node == t.node) ≡ false → HasKept image (done image t epoch) x s) image.sequences
  deltas_done =
      all_weaker (λ s. find (λ (q : SeqRow). q.node == s.node) image.sequences ≡ Some s) (λ s. (s.node == t.node) ≡ false → HasKept image (done image t epoch) x s) done_at image.sequences
      (each_found image.sequences h.sound.movements)
