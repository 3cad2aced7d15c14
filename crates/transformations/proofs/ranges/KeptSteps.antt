-- Movements keep their ranges where one of them takes a step, is done or is given up.
use Rattle.std.proofs.Common.{◌≡◌, ℕ, false, not, ◌&&◌, ◌||◌, ◌==◌, ℤ, List, ◌++◌, map, find, Some, refl, sym, ap, ◌∙◌}
use Rattle.std.specs.List.{AllByRecursion}
use Rattle.cluster_terms.proofs.reach.ReachKept.{IsNarrowed}
use Rattle.cluster_terms.specs.Pair.{has_pair, without_pairs}
use Rattle.cluster_terms.specs.declared.token.Pair.{Pair}
use Rattle.transformations.proofs.movements.DoneLemmas.{done, has_done}
use Rattle.transformations.proofs.movements.ExchangeLemmas.{IsExchange, exchange}
use Rattle.transformations.proofs.ranges.KeptRanges.{IsKept, kept_narrowed, narrowed_done, narrowed_without, ranges_alike}
use Rattle.transformations.proofs.lists.ListLemmas.{all_each, all_found, all_weaker}
use Rattle.transformations.proofs.movements.MovementLemmas.{flat_without, phase_incoming, phase_outgoing}
use Rattle.transformations.proofs.nodes.NodeLemmas.{groups_left}
use Rattle.transformations.proofs.pairs.OwnedLemmas.{has_append, has_fixed, has_permuted, has_widest}
use Rattle.transformations.specs.Ranges.{in_both, in_ranges, moved_by}
use Rattle.transformations.specs.Rings.{fixed_ring, incoming, outgoing, widest}
use Rattle.transformations.specs.Movements.{at_phase, leaver, others}
use Rattle.transformations.specs.Valid.{IsMovement, IsSound}
use Rattle.transformations.specs.declared.image.Image.{Image}
use Rattle.transformations.specs.declared.keyspace.KeyspaceRow.{KeyspaceRow}
use Rattle.transformations.specs.declared.sequence.Phase.{Phase}
use Rattle.transformations.specs.declared.sequence.SeqRow.{SeqRow}

-- ---- a movement in another phase

pub kept_phase : (phase : Phase) (image : Image) (n epoch : ℕ) (x : ℤ) → AllByRecursion (IsKept image (record image { epoch = epoch; sequences = map (at_phase phase n) image.sequences }) x) image.sequences
kept_phase phase image n epoch x =
    let after : Image = record image { epoch = epoch; sequences = map (at_phase phase n) image.sequences } in
    let fixed : fixed_ring image ≡ fixed_ring after = ap (λ out. without_pairs image.tokens out) (sym (phase_outgoing phase n image.sequences)) in
    let all : widest image ≡ widest after = ap (λ l. image.tokens ++ l) (sym (phase_incoming phase n image.sequences)) in
    all_each (IsKept image after x)
    (λ s. all_each (λ (k : KeyspaceRow). in_ranges image k.replication s x ≡ in_ranges after k.replication s x) (λ k. ranges_alike image after k.replication x s s refl fixed all refl) image.keyspaces)
    image.sequences

-- ---- a movement less

-- the pairs that a movement takes out and puts in
pub has_moved : (s : SeqRow) (p : Pair) → has_pair (moved_by s) p ≡ (has_pair s.out_pairs p || has_pair s.in_pairs p)
has_moved s p = sym (has_append s.out_pairs s.in_pairs p)

-- the same ring with one movement more, and without it
pub narrowed_fewer : (image : Image) (wide narrow : List SeqRow) (s : SeqRow)
    → ((p : Pair) → has_pair (outgoing wide) p ≡ (has_pair s.out_pairs p || has_pair (outgoing narrow) p))
    → ((p : Pair) → has_pair (incoming wide) p ≡ (has_pair s.in_pairs p || has_pair (incoming narrow) p))
    → IsNarrowed (moved_by s) (fixed_ring (record image { sequences = wide })) (widest (record image { sequences = wide })) (fixed_ring (record image { sequences = narrow })) (widest (record image { sequences = narrow }))
narrowed_fewer image wide narrow s outs ins =
    let before : Image = record image { sequences = wide } in
    let after : Image = record image { sequences = narrow } in
    narrowed_without (moved_by s) (fixed_ring before) (widest before) (fixed_ring after) (widest after)
    (has_pair image.tokens) (has_pair s.out_pairs) (has_pair s.in_pairs) (has_pair (outgoing narrow)) (has_pair (incoming narrow))
    (λ p. has_fixed before p ∙ ap (λ b. has_pair image.tokens p && not b) (outs p))
    (λ p. has_widest before p ∙ ap (λ b. has_pair image.tokens p || b) (ins p))
    (has_moved s) (has_fixed after) (has_widest after)

module _ (image : Image) (s : SeqRow) (epoch : ℕ) (found : find (λ (q : SeqRow). q.node == s.node) image.sequences ≡ Some s) (h : IsSound image) where
  abbrev rest : List SeqRow
  rest = others image.sequences s.node

  abbrev given_up : Image
  given_up = record image { epoch = epoch; sequences = rest }

  outs : (p : Pair) → has_pair (outgoing image.sequences) p ≡ (has_pair s.out_pairs p || has_pair (outgoing rest) p)
  outs p =
      has_permuted (outgoing image.sequences) (s.out_pairs ++ outgoing rest) (flat_without (λ (q : SeqRow). q.out_pairs) s.node image.sequences s h.movements found) p
      ∙ sym (has_append s.out_pairs (outgoing rest) p)

  ins : (p : Pair) → has_pair (incoming image.sequences) p ≡ (has_pair s.in_pairs p || has_pair (incoming rest) p)
  ins p =
      has_permuted (incoming image.sequences) (s.in_pairs ++ incoming rest) (flat_without (λ (q : SeqRow). q.in_pairs) s.node image.sequences s h.movements found) p
      ∙ sym (has_append s.in_pairs (incoming rest) p)

  -- what it takes out is fixed once it is given up, and what it brings is once it is done
  narrowed_given_up : IsNarrowed (moved_by s) (fixed_ring image) (widest image) (fixed_ring given_up) (widest given_up)
  narrowed_given_up = narrowed_fewer image image.sequences rest s outs ins

  narrowed_in_ring : IsNarrowed (moved_by s) (fixed_ring image) (widest image) (fixed_ring (done image s epoch)) (widest (done image s epoch))
  narrowed_in_ring =
      let after : Image = done image s epoch in
      let m : IsMovement image s = all_found (IsMovement image) (λ (q : SeqRow). q.node == s.node) image.sequences s found h.fitting in
      let x : IsExchange image s = exchange image s h.ring m in
      narrowed_done (moved_by s) (fixed_ring image) (widest image) (fixed_ring after) (widest after)
      (has_pair image.tokens) (has_pair s.out_pairs) (has_pair s.in_pairs) (has_pair (outgoing rest)) (has_pair (incoming rest))
      (λ p. has_fixed image p ∙ ap (λ b. has_pair image.tokens p && not b) (outs p))
      (λ p. has_widest image p ∙ ap (λ b. has_pair image.tokens p || b) (ins p))
      (has_moved s)
      (λ p. has_fixed after p ∙ ap (λ b. b && not (has_pair (outgoing rest) p)) (has_done image s h m x found p))
      (λ p. has_widest after p ∙ ap (λ b. b || has_pair (incoming rest) p) (has_done image s h m x found p))

  -- the others keep their ranges
  pub kept_done : (x : ℤ) → AllByRecursion (λ q. (q.node == s.node) ≡ false → in_both image s q x ≡ false) image.sequences
      → AllByRecursion (λ q. (q.node == s.node) ≡ false → IsKept image (done image s epoch) x q) image.sequences
  kept_done x apart =
      all_weaker (λ (q : SeqRow). (q.node == s.node) ≡ false → in_both image s q x ≡ false) (λ (q : SeqRow). (q.node == s.node) ≡ false → IsKept image (done image s epoch) x q)
      (λ q none other. kept_narrowed image (done image s epoch) x s q (groups_left image.nodes (leaver s)) narrowed_in_ring (none other)) image.sequences apart

  pub kept_given_up : (x : ℤ) → AllByRecursion (λ q. (q.node == s.node) ≡ false → in_both image s q x ≡ false) image.sequences
      → AllByRecursion (λ q. (q.node == s.node) ≡ false → IsKept image given_up x q) image.sequences
  kept_given_up x apart =
      all_weaker (λ (q : SeqRow). (q.node == s.node) ≡ false → in_both image s q x ≡ false) (λ (q : SeqRow). (q.node == s.node) ≡ false → IsKept image given_up x q)
      (λ q none other. kept_narrowed image given_up x s q (λ r. refl) narrowed_given_up (none other)) image.sequences apart
