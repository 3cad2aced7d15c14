-- Images that read the same or write the same at each token, as commands make them that take no last step.
use Rattle.std.proofs.Common.{◌≡◌, ℕ, ◌+◌, Bool, true, false, not, ◌&&◌, ◌==◌, nat_eq, ℤ, List, [], ◌∷◌, filter, map, is_some, ◌⊎◌, inl, inr, refl, sym, ap, ◌∙◌, subst, arith}
use Rattle.std.proofs.lemmas.Bool.{false≢true}
use Rattle.std.proofs.lemmas.Bool.Decides.{nat_tests}
use Rattle.std.proofs.lemmas.Map.Views.{exact_unsigned_eq}
use Rattle.std.specs.Cmp.{unsigned_tied}
use Rattle.std.specs.List.{AllByRecursion}
use Rattle.std.specs.Ordering.{nat_cmp, eq_by_cmp}
use Rattle.cluster_terms.proofs.placement.GroupLemmas.{has, or_elim}
use Rattle.cluster_terms.proofs.placement.PlacedNodes.{placed_nodes}
use Rattle.cluster_terms.proofs.placement.PlacementCounts.{placed_within}
use Rattle.cluster_terms.specs.Ascending.{put, put_all}
use Rattle.cluster_terms.specs.Group.{nodes_of, place}
use Rattle.cluster_terms.specs.NodeRow.{row_of}
use Rattle.cluster_terms.specs.Replication.{groups_of, rack_within}
use Rattle.cluster_terms.specs.declared.node.NodeRow.{NodeRow}
use Rattle.cluster_terms.specs.declared.replication.Replication.{Replication}
use Rattle.cluster_terms.specs.declared.token.Pair.{Pair}
use Rattle.transformations.proofs.lists.FilterLemmas.{filter_alike, filter_both, filter_put}
use Rattle.transformations.proofs.ranges.KeptNodes.{HaveRows}
use Rattle.transformations.proofs.lists.ListLemmas.{IsPart, all_weaker, part_all_of, part_append, part_flat, part_without_pairs}
use Rattle.transformations.proofs.quorums.MeetingLemmas.{AreNear, is_in}
use Rattle.transformations.proofs.movements.PhaseLemmas.{CountsAlike, incoming_at, outgoing_at}
use Rattle.transformations.proofs.quorums.ServedLemmas.{IsServed}
use Rattle.transformations.specs.History.{begun}
use Rattle.transformations.specs.Orders.{by_node}
use Rattle.transformations.specs.Rings.{incoming, is_mid, has_started, outgoing, read_ring, reads_at, replaced, widest, writes_at}
use Rattle.transformations.specs.Movements.{at_phase, others}
use Rattle.transformations.specs.declared.image.Image.{Image}
use Rattle.transformations.specs.declared.keyspace.KeyspaceRow.{KeyspaceRow}
use Rattle.transformations.specs.declared.sequence.Phase.{Phase}
use Rattle.transformations.specs.declared.sequence.SeqRow.{SeqRow}

-- the same is read, in the same datacenters
pub record SameReads (image after : Image) (r : Replication) (x : ℤ) : Type 0 where
  pub reads : reads_at image r x ≡ reads_at after r x
  pub places : (dc : List ℕ) (v : ℕ) → has (reads_at image r x) v ≡ true → is_in image.nodes dc v ≡ is_in after.nodes dc v

-- the same is written
pub record SameWrites (image after : Image) (r : Replication) (x : ℤ) : Type 0 where
  pub writes : writes_at image r x ≡ writes_at after r x
  pub nodes : image.nodes ≡ after.nodes

-- at each token, under each replication, one or the other
abbrev pub ShareSets : Image → Image → Type 0
ShareSets image after = (r : Replication) (x : ℤ) → SameReads image after r x ⊎ SameWrites image after r x

pub near : (image after : Image) (r : Replication) (x : ℤ) → IsServed image r x → IsServed after r x → SameReads image after r x ⊎ SameWrites image after r x → AreNear image after r x
near image after r x s t (inl same) = record {
  there = λ v here. s.written v (ap (λ l. has l v) same.reads ∙ here);
  back = λ v here. t.written v (sym (ap (λ l. has l v) same.reads) ∙ here);
  places = λ dc v here. or_elim (has (reads_at image r x) v) (has (reads_at after r x) v) here (same.places dc v) (λ later. same.places dc v (ap (λ l. has l v) same.reads ∙ later));
}
near image after r x s t (inr same) = record {
  there = λ v here. ap (λ l. has l v) same.writes ∙ t.written v here;
  back = λ v here. sym (ap (λ l. has l v) same.writes) ∙ s.written v here;
  places = λ dc v here. ap (λ nodes. is_in nodes dc v) same.nodes;
}

-- ---- other keyspaces

pub share_keyspaces : (image : Image) (epoch : ℕ) (keyspaces : List KeyspaceRow) → ShareSets image (record image { epoch = epoch; keyspaces = keyspaces })
unfolding writes_at
share_keyspaces image epoch keyspaces r x = inr (record { writes = refl; nodes = refl })

-- ---- other nodes

-- what holds of the node of each pair holds of each node that has pairs
nodes_hold : (P : ℕ → Type 0) (ps : List Pair) → AllByRecursion (λ p. P p.node) ps → (v : ℕ) → has (nodes_of ps) v ≡ true → P v
nodes_hold P [] all v there = absurd (false≢true there)
nodes_hold P (p ∷ ps) all v there =
    or_elim (nat_eq v p.node) (has (nodes_of ps) v) there (λ same. subst P (sym (exact_unsigned_eq v p.node same)) all.0) (nodes_hold P ps all.1 v)

abbrev pub mid : SeqRow → Bool
mid s = is_mid s.phase

read_within : (image : Image) → IsPart (read_ring image) (widest image)
read_within image =
    part_append (part_without_pairs image.tokens (outgoing (filter mid image.sequences))) (part_flat (λ (s : SeqRow). s.in_pairs) mid image.sequences)

module _ (image : Image) (epoch next : ℕ) (nodes : List NodeRow) (rows : HaveRows image nodes (widest image)) where
  read_rows : HaveRows image nodes (read_ring image)
  read_rows = part_all_of (λ p. row_of image.nodes p.node ≡ row_of nodes p.node) (read_within image) rows

  pub share_rows : ShareSets image (record image { epoch = epoch; next = next; nodes = nodes })
  unfolding reads_at
  share_rows r x = inl (record {
    reads = placed_nodes image.nodes nodes x (read_ring image) read_rows r;
    places = λ dc v there.
        nodes_hold (λ n. is_in image.nodes dc n ≡ is_in nodes dc n) (read_ring image)
        (all_weaker (λ (p : Pair). row_of image.nodes p.node ≡ row_of nodes p.node) (λ (p : Pair). is_in image.nodes dc p.node ≡ is_in nodes dc p.node)
        (λ p same i. is_some (rack_within dc (same i))) (read_ring image) read_rows)
        v (placed_within (groups_of image.nodes r) x (read_ring image) v there);
  })

-- ---- other movements

-- as long as those at MID are the same
share_mid : (image : Image) (epoch : ℕ) (sequences : List SeqRow) → filter mid image.sequences ≡ filter mid sequences → ShareSets image (record image { epoch = epoch; sequences = sequences })
unfolding reads_at
share_mid image epoch sequences same r x = inl (record {
  reads = ap (λ l. place (groups_of image.nodes r) x (replaced image.tokens (outgoing l) (incoming l))) same;
  places = λ dc v there. refl;
})

-- one more, which isn't
pub share_begun : (image : Image) (j : SeqRow) → AllByRecursion (λ (s : SeqRow). (s.node == j.node) ≡ false) image.sequences → is_mid j.phase ≡ false → ShareSets image (begun image j)
share_begun image j new is =
    share_mid image (image.epoch + 1) (put by_node j image.sequences)
    (sym (filter_put by_node mid j image.sequences is
    (all_weaker (λ (s : SeqRow). (s.node == j.node) ≡ false) (λ (s : SeqRow). eq_by_cmp by_node j s ≡ false) (λ s other. untied j.node s.node other) image.sequences new)))
  where
    turned : (n m : ℕ) → (m == n) ≡ false → nat_eq n m ≡ false
    turned n m other = grind (arith, nat_tests)

    untied : (n m : ℕ) → (m == n) ≡ false → eq_by_cmp nat_cmp n m ≡ false
    untied n m other = unsigned_tied n m ∙ turned n m other

-- one less, which isn't
pub share_without : (image : Image) (epoch n : ℕ) → AllByRecursion (λ (q : SeqRow). (q.node == n) ≡ true → is_mid q.phase ≡ false) image.sequences
    → ShareSets image (record image { epoch = epoch; sequences = others image.sequences n })
share_without image epoch n none =
    share_mid image epoch (others image.sequences n)
    (sym (filter_both mid (λ (q : SeqRow). not (q.node == n)) image.sequences
    ∙ filter_alike (λ (q : SeqRow). not (q.node == n) && mid q) mid image.sequences
    (all_weaker (λ (q : SeqRow). (q.node == n) ≡ true → is_mid q.phase ≡ false) (λ (q : SeqRow). (not (q.node == n) && mid q) ≡ mid q) (λ q early. stays (q.node == n) (mid q) early) image.sequences none)))
  where
    stays : (e m : Bool) → (e ≡ true → m ≡ false) → (not e && m) ≡ m
    stays true m early = sym (early refl)
    stays false m early = refl

module _ (phase : Phase) (image : Image) (n epoch : ℕ) where
  abbrev later : Image
  later = record image { epoch = epoch; sequences = map (at_phase phase n) image.sequences }

  -- one in another phase, in which reads see it as before
  pub share_reads : AllByRecursion (CountsAlike is_mid phase n) image.sequences → ShareSets image later
  unfolding reads_at
  share_reads alike r x = inl (record {
    reads = sym (λ i. place (groups_of image.nodes r) x (replaced image.tokens (outgoing_at is_mid phase n image.sequences alike i) (incoming_at is_mid phase n image.sequences alike i)));
    places = λ dc v there. refl;
  })

  -- or in which writes do
  pub share_writes : AllByRecursion (CountsAlike has_started phase n) image.sequences → ShareSets image later
  unfolding writes_at
  share_writes alike r x = inr (record {
    writes = sym (λ i. put_all nat_cmp (place (groups_of image.nodes r) x image.tokens)
        (place (groups_of image.nodes r) x (replaced image.tokens (outgoing_at has_started phase n image.sequences alike i) (incoming_at has_started phase n image.sequences alike i))));
    nodes = refl;
  })
