-- What is read and written once a movement is in another phase, given up or done: it is placed after outcomes of the
-- image before.
use Rattle.std.proofs.Common.{◌≡◌, ℕ, Bool, true, false, cond, not, ◌&&◌, ◌==◌, ℤ, List, [], ◌∷◌, ◌++◌, filter, find, flat_map, map, if◌then◌else◌, Some, refl, sym, ap, ◌∙◌}
use Rattle.std.specs.Ordering.{nat_cmp}
use Rattle.cluster_terms.proofs.placement.PlacedByReach.{place-same}
use Rattle.cluster_terms.specs.Ascending.{put_all}
use Rattle.cluster_terms.specs.Group.{Group, place}
use Rattle.cluster_terms.specs.Replication.{groups_of}
use Rattle.cluster_terms.specs.declared.replication.Replication.{Replication}
use Rattle.cluster_terms.specs.declared.token.Pair.{Pair}
use Rattle.transformation_laws.proofs.deltas.ChangedOutcomes.{ArePlacedAfter, OnlyFor, Outcomes}
use Rattle.transformations.proofs.deltas.OutsideDeltas.{is_own}
use Rattle.transformations.proofs.lists.FilterLemmas.{filter_both}
use Rattle.transformations.proofs.movements.DoneLemmas.{done}
use Rattle.transformations.proofs.movements.DoneRings.{ring_same}
use Rattle.transformations.proofs.movements.SoleLemmas.{itself}
use Rattle.transformations.proofs.nodes.NodeLemmas.{groups_left}
use Rattle.transformations.proofs.quorums.ServedLemmas.{ring_own, started_at_mid}
use Rattle.transformations.proofs.ranges.OutcomeLemmas.{are_outcomes, outcome_same}
use Rattle.transformations.specs.Ranges.{outcome_ring, placed_after}
use Rattle.transformations.specs.Rings.{has_started, incoming, is_mid, outgoing, reads_at, replaced, ring_at, writes_at}
use Rattle.transformations.specs.Movements.{at_phase, leaver, others, ring_after}
use Rattle.transformations.specs.Valid.{IsSound}
use Rattle.transformations.specs.declared.image.Image.{Image}
use Rattle.transformations.specs.declared.sequence.Phase.{Phase}
use Rattle.transformations.specs.declared.sequence.SeqRow.{SeqRow}

-- the ring with some movements applied
abbrev ring_of : Image → List SeqRow → List Pair
ring_of image some = replaced image.tokens (outgoing some) (incoming some)

module _ (image : Image) (h : IsSound image) (r : Replication) (x : ℤ) where
  low_placed : place (groups_of image.nodes r) x image.tokens ≡ placed_after image r x (λ q. false)
  low_placed = place-same (groups_of image.nodes r) x image.tokens (outcome_ring image (λ q. false)) (are_outcomes image h).low

  some_placed : (done : SeqRow → Bool) → place (groups_of image.nodes r) x (ring_of image (filter done image.sequences)) ≡ placed_after image r x done
  some_placed done = place-same (groups_of image.nodes r) x (ring_of image (filter done image.sequences)) (outcome_ring image done) (outcome_same image done h)

-- ---- another phase

module _ (pairs : SeqRow → List Pair) (f : SeqRow → SeqRow) (keeps : (q : SeqRow) → pairs (f q) ≡ pairs q) (test : SeqRow → Bool) where
  flat_later : (sequences : List SeqRow) → flat_map pairs (filter test (map f sequences)) ≡ flat_map pairs (filter (λ q. test (f q)) sequences)
  flat_later [] = refl
  flat_later (q ∷ sequences) = by (test (f q)) (flat_later sequences)
    where
      by : (b : Bool) → flat_map pairs (filter test (map f sequences)) ≡ flat_map pairs (filter (λ q. test (f q)) sequences)
          → flat_map pairs (cond b (f q ∷ filter test (map f sequences)) (filter test (map f sequences))) ≡ flat_map pairs (cond b (q ∷ filter (λ q. test (f q)) sequences) (filter (λ q. test (f q)) sequences))
      by true rest = λ i. keeps q i ++ rest i
      by false rest = rest

module _ (phase : Phase) (n : ℕ) where
  at_out : (q : SeqRow) → (at_phase phase n q).out_pairs ≡ q.out_pairs
  at_out q = by (q.node == n)
    where
      by : (b : Bool) → (let changed : SeqRow = record q { phase = phase } in if b then changed else q).out_pairs ≡ q.out_pairs
      by true = refl
      by false = refl

  at_in : (q : SeqRow) → (at_phase phase n q).in_pairs ≡ q.in_pairs
  at_in q = by (q.node == n)
    where
      by : (b : Bool) → (let changed : SeqRow = record q { phase = phase } in if b then changed else q).in_pairs ≡ q.in_pairs
      by true = refl
      by false = refl

  -- whether a movement counts in its later phase
  counted : (applied : Phase → Bool) (q : SeqRow) (b : Bool) → (q.node == n) ≡ b → applied (at_phase phase n q).phase ≡ applied (if b then phase else q.phase)
  counted applied q b e = by (q.node == n) ∙ ap (λ b. applied (if b then phase else q.phase)) e
    where
      by : (b : Bool) → applied (let changed : SeqRow = record q { phase = phase } in if b then changed else q).phase ≡ applied (if b then phase else q.phase)
      by true = refl
      by false = refl

  abbrev pub outcomes_at : Outcomes
  outcomes_at = record {
    low = λ q. false;
    read = λ q. is_mid (at_phase phase n q).phase;
    high = λ q. has_started (at_phase phase n q).phase;
  }

  module _ (image : Image) (h : IsSound image) (epoch : ℕ) (r : Replication) (x : ℤ) where
    abbrev later : Image
    later = record image { epoch = epoch; sequences = map (at_phase phase n) image.sequences }

    ring_later : (applied : Phase → Bool) → place (groups_of image.nodes r) x (ring_at applied later) ≡ placed_after image r x (λ q. applied (at_phase phase n q).phase)
    ring_later applied =
        (λ i. place (groups_of image.nodes r) x
        (replaced image.tokens (flat_later (λ (q : SeqRow). q.out_pairs) (at_phase phase n) at_out (λ (q : SeqRow). applied q.phase) image.sequences i)
        (flat_later (λ (q : SeqRow). q.in_pairs) (at_phase phase n) at_in (λ (q : SeqRow). applied q.phase) image.sequences i)))
        ∙ some_placed image h r x (λ q. applied (at_phase phase n q).phase)

    pub placed_at_phase : ArePlacedAfter image later r x outcomes_at
    unfolding reads_at writes_at
    placed_at_phase = record { reads = ring_later is_mid; writes = λ i. put_all nat_cmp (low_placed image h r x i) (ring_later has_started i) }

-- they differ from the outcomes of the image in the movement of this node alone
pub only_at_phase : (phase : Phase) (s : SeqRow) → OnlyFor s (outcomes_at phase s.node) false (is_mid phase) (has_started phase)
only_at_phase phase s = record {
  others_low = λ q other. refl;
  others_read = λ q other. counted phase s.node is_mid q false other;
  others_high = λ q other. counted phase s.node has_started q false other;
  own_low = refl;
  own_read = counted phase s.node is_mid s true (itself s.node);
  own_high = counted phase s.node has_started s true (itself s.node);
}

-- ---- a movement less

abbrev pub outcomes_without : ℕ → Outcomes
outcomes_without n = record {
  low = λ q. false;
  read = λ q. not (q.node == n) && is_mid q.phase;
  high = λ q. not (q.node == n) && has_started q.phase;
}

module _ (image : Image) (h : IsSound image) (n epoch : ℕ) (r : Replication) (x : ℤ) where
  abbrev without_it : Image
  without_it = record image { epoch = epoch; sequences = others image.sequences n }

  ring_without : (applied : Phase → Bool) → place (groups_of image.nodes r) x (ring_at applied without_it) ≡ placed_after image r x (λ q. not (q.node == n) && applied q.phase)
  ring_without applied =
      ap (λ some. place (groups_of image.nodes r) x (ring_of image some)) (filter_both (λ (q : SeqRow). applied q.phase) (λ (q : SeqRow). not (q.node == n)) image.sequences)
      ∙ some_placed image h r x (λ q. not (q.node == n) && applied q.phase)

  pub placed_without : ArePlacedAfter image without_it r x (outcomes_without n)
  unfolding reads_at writes_at
  placed_without = record { reads = ring_without is_mid; writes = λ i. put_all nat_cmp (low_placed image h r x i) (ring_without has_started i) }

pub only_without : (s : SeqRow) → OnlyFor s (outcomes_without s.node) false false false
only_without s = record {
  others_low = λ q other. refl;
  others_read = λ q other. ap (λ b. not b && is_mid q.phase) other;
  others_high = λ q other. ap (λ b. not b && has_started q.phase) other;
  own_low = refl;
  own_read = ap (λ b. not b && is_mid s.phase) (itself s.node);
  own_high = ap (λ b. not b && has_started s.phase) (itself s.node);
}

-- ---- a movement that is done

abbrev pub outcomes_done : SeqRow → Outcomes
outcomes_done s = record { low = is_own s; read = λ q. is_mid q.phase; high = λ q. has_started q.phase }

module _ (image : Image) (h : IsSound image) (s : SeqRow) (epoch : ℕ) (found : find (λ (q : SeqRow). q.node == s.node) image.sequences ≡ Some s) (r : Replication) (x : ℤ) where
  -- the nodes place as they did
  groups_done : (ring : List Pair) → place (groups_of (done image s epoch).nodes r) x ring ≡ place (groups_of image.nodes r) x ring
  groups_done ring = ap (λ (gs : List Group). place gs x ring) (sym (groups_left image.nodes (leaver s) r))

  low_done : place (groups_of image.nodes r) x (ring_after image.tokens s) ≡ placed_after image r x (is_own s)
  low_done = place-same (groups_of image.nodes r) x (ring_after image.tokens s) (outcome_ring image (is_own s)) (ring_own image r x h s found)

  ring_done : (applied : Phase → Bool) → applied s.phase ≡ true → place (groups_of image.nodes r) x (ring_at applied (done image s epoch)) ≡ placed_after image r x (λ q. applied q.phase)
  ring_done applied is =
      sym (place-same (groups_of image.nodes r) x (ring_at applied image) (ring_at applied (done image s epoch)) (ring_same image s found h (λ (q : SeqRow). applied q.phase) is))
      ∙ some_placed image h r x (λ q. applied q.phase)

  pub placed_done : is_mid s.phase ≡ true → ArePlacedAfter image (done image s epoch) r x (outcomes_done s)
  unfolding reads_at writes_at
  placed_done is = record {
    reads = groups_done (ring_at is_mid (done image s epoch)) ∙ ring_done is_mid is;
    writes = λ i. put_all nat_cmp ((groups_done (ring_after image.tokens s) ∙ low_done) i)
        ((groups_done (ring_at has_started (done image s epoch)) ∙ ring_done has_started (started_at_mid s.phase is)) i);
  }

pub only_done : (s : SeqRow) → is_mid s.phase ≡ true → OnlyFor s (outcomes_done s) true true true
only_done s is = record {
  others_low = λ q other. other;
  others_read = λ q other. refl;
  others_high = λ q other. refl;
  own_low = itself s.node;
  own_read = is;
  own_high = started_at_mid s.phase is;
}
