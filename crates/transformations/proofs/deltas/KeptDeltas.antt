-- Movements keep their deltas where the ring and the nodes stay, or nodes come and go that have no pairs.
use Rattle.std.proofs.Common.{◌≡◌, ℕ, true, ◌==◌, ℤ, List, Option, Some, None, is_some, refl, sym, ap, ◌∙◌}
use Rattle.std.specs.List.{AllByRecursion}
use Rattle.std.specs.Option.{IfSome}
use Rattle.cluster_terms.proofs.placement.PlacedNodes.{placed_nodes}
use Rattle.cluster_terms.specs.Arc.{IsToken}
use Rattle.cluster_terms.specs.Group.{place}
use Rattle.cluster_terms.specs.NodeRow.{row_of}
use Rattle.cluster_terms.specs.Replication.{groups_of}
use Rattle.cluster_terms.specs.declared.node.NodeRow.{NodeRow}
use Rattle.cluster_terms.specs.declared.replication.Replication.{Replication}
use Rattle.cluster_terms.specs.declared.token.Pair.{Pair}
use Rattle.transformations.proofs.deltas.DeltaRows.{IsWithPart, low_part, with_parts}
use Rattle.transformations.proofs.lists.ListLemmas.{all_both, all_each, all_found, all_weaker, found_passes, part_all_of}
use Rattle.transformations.proofs.movements.MovesOn.{MoveAlike, MoveOn}
use Rattle.transformations.proofs.ranges.KeptNodes.{HaveRows}
use Rattle.transformations.proofs.ranges.KeptRanges.{all_turned}
use Rattle.transformations.specs.MovementDeltas.{KeepsDeltas, KeepsDeltasAt, MovesSame, SameDeltas, newcomers, placed_before, placed_with}
use Rattle.transformations.specs.Rings.{low_ring, replaced, widest}
use Rattle.transformations.specs.Movements.{movement_of}
use Rattle.transformations.specs.declared.image.Image.{Image}
use Rattle.transformations.specs.declared.keyspace.KeyspaceRow.{KeyspaceRow}
use Rattle.transformations.specs.declared.sequence.SeqRow.{SeqRow}

-- under each keyspace the pairs of a movement make the same deltas in both images
abbrev pub HasKept : Image → Image → ℤ → SeqRow → Type 0
HasKept before after x s = AllByRecursion (λ k. SameDeltas before after k.replication x s s) before.keyspaces

-- ---- one movement

module _ (before after : Image) (r : Replication) (x : ℤ) where
  -- the deltas follow the placements
  deltas_placed : (s : SeqRow) → placed_before before r x ≡ placed_before after r x → placed_with before r s x ≡ placed_with after r s x → SameDeltas before after r x s s
  deltas_placed s low high = record { gained = λ i. newcomers (high i) (low i); lost = λ i. newcomers (low i) (high i) }

  -- and these follow the nodes and the ring
  deltas_alike : (s : SeqRow) → before.nodes ≡ after.nodes → before.tokens ≡ after.tokens → SameDeltas before after r x s s
  unfolding placed_before placed_with
  deltas_alike s nodes tokens =
      deltas_placed s (λ i. place (groups_of (nodes i) r) x (tokens i)) (λ i. place (groups_of (nodes i) r) x (replaced (tokens i) s.out_pairs s.in_pairs))

  -- a movement with the same pairs has the same deltas
  with_same : (s q : SeqRow) → MovesSame s q → placed_with after r s x ≡ placed_with after r q x
  unfolding placed_with
  with_same s q m = λ i. place (groups_of after.nodes r) x (replaced after.tokens (sym m.outs i) (sym m.ins i))

  pub deltas_of_same : (s q : SeqRow) → MovesSame s q → SameDeltas before after r x s s → SameDeltas before after r x s q
  deltas_of_same s q m d =
      let high = with_same s q m in
      record { gained = d.gained ∙ (λ i. newcomers (high i) (placed_before after r x)); lost = d.lost ∙ (λ i. newcomers (placed_before after r x) (high i)) }

-- ---- all movements

module _ (before after : Image) (on : MoveOn before.sequences after.sequences) where
  kept_at : (x : ℤ) (s : SeqRow) → AllByRecursion (MoveAlike s) after.sequences → (is_some (movement_of after s.node) ≡ true → HasKept before after x s)
      → AllByRecursion (λ k. KeepsDeltasAt before after x k.replication s) before.keyspaces
  kept_at x s alike kept = by (movement_of after s.node) refl
    where
      by : (o : Option SeqRow) → movement_of after s.node ≡ o → AllByRecursion (λ (k : KeyspaceRow). IfSome o (SameDeltas before after k.replication x s)) before.keyspaces
      by None found = all_each (λ (k : KeyspaceRow). Unit {0}) (λ k. tt) before.keyspaces
      by (Some q) found =
          let same : MovesSame s q = all_found (MoveAlike s) (λ (r : SeqRow). r.node == s.node) after.sequences q found alike (found_passes (λ (r : SeqRow). r.node == s.node) after.sequences q found) in
          all_weaker (λ (k : KeyspaceRow). SameDeltas before after k.replication x s s) (λ (k : KeyspaceRow). SameDeltas before after k.replication x s q)
          (λ k d. deltas_of_same before after k.replication x s q same d) before.keyspaces (kept (ap is_some found))

  -- each movement that goes on keeps its deltas
  pub keeps_deltas : ((x : ℤ) → IsToken x → AllByRecursion (λ s. is_some (movement_of after s.node) ≡ true → HasKept before after x s) before.sequences) → KeepsDeltas before after
  keeps_deltas each = λ x token.
      all_turned (λ (k : KeyspaceRow) (s : SeqRow). KeepsDeltasAt before after x k.replication s) before.sequences before.keyspaces
      (all_both (λ (s : SeqRow). AllByRecursion (MoveAlike s) after.sequences) (λ (s : SeqRow). is_some (movement_of after s.node) ≡ true → HasKept before after x s) (λ (s : SeqRow). AllByRecursion (λ k. KeepsDeltasAt before after x k.replication s) before.keyspaces)
      (kept_at x) before.sequences on (each x token))

  pub keeps_all_deltas : ((x : ℤ) → AllByRecursion (HasKept before after x) before.sequences) → KeepsDeltas before after
  keeps_all_deltas each =
      keeps_deltas (λ x token. all_weaker (HasKept before after x) (λ (s : SeqRow). is_some (movement_of after s.node) ≡ true → HasKept before after x s) (λ s kept on. kept) before.sequences (each x))

  -- where the nodes and the ring stay
  pub keeps_placed : before.nodes ≡ after.nodes → before.tokens ≡ after.tokens → KeepsDeltas before after
  keeps_placed nodes tokens =
      keeps_all_deltas (λ x. all_each (HasKept before after x) (λ s. all_each (λ (k : KeyspaceRow). SameDeltas before after k.replication x s s) (λ k. deltas_alike before after k.replication x s nodes tokens) before.keyspaces) before.sequences)

-- ---- other nodes

module _ (image : Image) (epoch next : ℕ) (nodes : List NodeRow) (rows : HaveRows image nodes (widest image)) where
  abbrev later : Image
  later = record image { epoch = epoch; next = next; nodes = nodes }

  abbrev HasRow : Pair → Type 0
  HasRow p = row_of image.nodes p.node ≡ row_of nodes p.node

  before_rows : (r : Replication) (x : ℤ) → placed_before image r x ≡ placed_before later r x
  unfolding placed_before
  before_rows r x = placed_nodes image.nodes nodes x (low_ring image) (part_all_of HasRow (low_part image) rows) r

  with_rows : (r : Replication) (x : ℤ) (s : SeqRow) → IsWithPart image s → placed_with image r s x ≡ placed_with later r s x
  unfolding placed_with
  with_rows r x s part = placed_nodes image.nodes nodes x (replaced (low_ring image) s.out_pairs s.in_pairs) (part_all_of HasRow part rows) r

  -- where the nodes of all pairs have the rows that they had
  pub deltas_rows : (x : ℤ) → AllByRecursion (HasKept image later x) image.sequences
  deltas_rows x =
      all_weaker (IsWithPart image) (HasKept image later x)
      (λ s part. all_each (λ (k : KeyspaceRow). SameDeltas image later k.replication x s s)
      (λ k. deltas_placed image later k.replication x s (before_rows k.replication x) (with_rows k.replication x s part)) image.keyspaces)
      image.sequences (with_parts image)
