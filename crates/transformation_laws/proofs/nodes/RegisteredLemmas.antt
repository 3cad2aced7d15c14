-- The nodes that are written are registered, so there are no more of them than nodes.
use Rattle.std.proofs.Common.{◌≡◌, ℕ, ◌≤◌, Bool, true, false, ◌||◌, ◌==◌, cond, nat_eq, ℤ, List, [], ◌∷◌, map, filter, length, Some, refl, sym, ap, ◌∙◌, arith}
use Rattle.std.proofs.lemmas.Bool.{or_left, or_right, false≢true}
use Rattle.std.proofs.lemmas.Bool.Decides.{Decides-eqb}
use Rattle.std.proofs.lemmas.List.{length-map}
use Rattle.std.proofs.lemmas.Map.Made.{length-le_from_is_member}
use Rattle.std.proofs.lemmas.Map.Views.{exact_unsigned_eq}
use Rattle.std.specs.Cmp.{nat_eq_equiv}
use Rattle.std.specs.List.{AllByRecursion}
use Rattle.cluster_terms.proofs.lists.AscendingNumbers.{member-put_all_numbers}
use Rattle.cluster_terms.proofs.placement.GroupLemmas.{has, or_elim}
use Rattle.cluster_terms.proofs.placement.PlacementCounts.{has_placed}
use Rattle.cluster_terms.proofs.placement.PlacementLemmas.{replica-has}
use Rattle.cluster_terms.proofs.quorums.QuorumLemmas.{ascend_distinct}
use Rattle.cluster_terms.specs.Group.{Group, nodes_of, place}
use Rattle.cluster_terms.specs.NodeRow.{row_of}
use Rattle.cluster_terms.specs.Replication.{groups_of}
use Rattle.cluster_terms.specs.declared.node.NodeRow.{NodeRow}
use Rattle.cluster_terms.specs.declared.replication.Replication.{Replication}
use Rattle.cluster_terms.specs.declared.token.Pair.{Pair}
use Rattle.transformations.proofs.movements.ExchangeLemmas.{IsExchange, exchanges}
use Rattle.transformations.proofs.lists.ListLemmas.{IsPart, all_both, all_map, all_weaker, member_holds, part_all_of, part_append, part_flat, part_front, part_without_pairs}
use Rattle.transformations.proofs.ranges.MovementRanges.{widest_hold}
use Rattle.transformations.proofs.quorums.ServedLemmas.{writes_ascend}
use Rattle.transformations.specs.Refusals.{most_nodes}
use Rattle.transformations.specs.Rings.{high_ring, incoming, has_started, low_ring, outgoing, widest, writes_at}
use Rattle.transformations.specs.Valid.{IsMovement, IsSound, is_standing, stands}
use Rattle.transformations.specs.declared.image.Image.{Image}
use Rattle.transformations.specs.declared.sequence.SeqRow.{SeqRow}

abbrev ids_of : List NodeRow → List ℕ
ids_of nodes = map (λ (row : NodeRow). row.id) nodes

-- a node that stands is registered
standing_has : (nodes : List NodeRow) (n : ℕ) → is_standing nodes n ≡ true → has (ids_of nodes) n ≡ true
standing_has [] n h = absurd (false≢true h)
standing_has (row ∷ nodes) n h = by (row.id == n) refl h (standing_has nodes n)
  where
    by : (b : Bool) → (row.id == n) ≡ b → stands (cond b (Some row) (row_of nodes n)) ≡ true → (is_standing nodes n ≡ true → has (ids_of nodes) n ≡ true)
        → (nat_eq n row.id || has (ids_of nodes) n) ≡ true
    by true e up rest =
        let same : row.id ≡ n = (Decides-eqb row.id n).0 e in
        or_left (nat_eq n row.id) (has (ids_of nodes) n) (ap (nat_eq n) same ∙ nat_eq_equiv.refl n)
    by false e up rest = or_right (nat_eq n row.id) (has (ids_of nodes) n) (rest up)

module _ (image : Image) (h : IsSound image) where
  abbrev IsRegistered : ℕ → Type 0
  IsRegistered n = has (ids_of image.nodes) n ≡ true

  -- so are those of all pairs that stand or may come to stand
  widest_registered : AllByRecursion (λ (p : Pair). IsRegistered p.node) (widest image)
  widest_registered =
      let own : Pair → Type 0 = λ p. IsRegistered p.node in
      widest_hold own image
      (all_weaker (λ (p : Pair). is_standing image.nodes p.node ≡ true) own (λ p up. standing_has image.nodes p.node up) image.tokens h.ring.owners)
      (all_both (IsMovement image) (IsExchange image) (λ (s : SeqRow). AllByRecursion own s.in_pairs)
      (λ s m x. all_weaker (λ (p : Pair). p.node ≡ s.node) own (λ p is. standing_has image.nodes p.node (ap (is_standing image.nodes) is ∙ m.stands)) s.in_pairs x.own)
      image.sequences h.fitting (exchanges image h))

  -- and those that are placed on some of these
  placed_registered : (ring : List Pair) → IsPart ring (widest image) → (gs : List Group) (x : ℤ) (v : ℕ) → has (place gs x ring) v ≡ true → IsRegistered v
  placed_registered ring part gs x v there =
      member_holds nat_eq exact_unsigned_eq IsRegistered (nodes_of ring)
      (all_map IsRegistered (λ (p : Pair). p.node) ring (part_all_of (λ (p : Pair). IsRegistered p.node) part widest_registered)) v
      (replica-has x ring gs v (sym (has_placed gs x ring v) ∙ there))

  high_part : IsPart (high_ring image) (widest image)
  high_part =
      part_append (part_without_pairs image.tokens (outgoing (filter (λ (s : SeqRow). has_started s.phase) image.sequences)))
      (part_flat (λ (s : SeqRow). s.in_pairs) (λ (s : SeqRow). has_started s.phase) image.sequences)

  written_registered : (r : Replication) (x : ℤ) (v : ℕ) → has (writes_at image r x) v ≡ true → IsRegistered v
  unfolding writes_at
  written_registered r x v there =
      let gs : List Group = groups_of image.nodes r in
      or_elim (has (place gs x (low_ring image)) v) (has (place gs x (high_ring image)) v)
      (sym (member-put_all_numbers (place gs x (low_ring image)) (place gs x (high_ring image)) v) ∙ there)
      (λ low. placed_registered (low_ring image) (part_front image.tokens (incoming image.sequences)) gs x v low)
      (λ high. placed_registered (high_ring image) high_part gs x v high)

  -- there are at most as many as nodes
  pub writes_few : (r : Replication) (x : ℤ) → length (writes_at image r x) ≤ most_nodes
  writes_few r x =
      let most = length-le_from_is_member nat_eq_equiv (writes_at image r x) (ids_of image.nodes) (ascend_distinct (writes_at image r x) (writes_ascend image r x)) (written_registered r x) in
      let long : length (ids_of image.nodes) ≡ length image.nodes = length-map image.nodes (λ (row : NodeRow). row.id) in
      omega (arith, most, long, h.nodes.few)
