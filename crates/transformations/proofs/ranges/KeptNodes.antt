-- Movements keep their ranges where nodes come and go that have no pairs and take part in no movement.
use Rattle.std.proofs.Common.{◌≡◌, ℕ, ◌+◌, true, false, not, ◌==◌, ℤ, List, [], ◌∷◌, ◌++◌, filter, None, sym, ap, ◌∙◌}
use Rattle.std.specs.List.{AllByRecursion}
use Rattle.cluster_terms.proofs.reach.ReachNodes.{reached-nodes}
use Rattle.cluster_terms.specs.NodeRow.{row_of}
use Rattle.cluster_terms.specs.declared.node.NodeRow.{NodeRow}
use Rattle.cluster_terms.specs.declared.replication.Replication.{Replication}
use Rattle.cluster_terms.specs.declared.token.Pair.{Pair}
use Rattle.transformations.proofs.commands.AcceptedLemmas.{apart, unregister_accepted}
use Rattle.transformations.proofs.movements.ExchangeLemmas.{IsExchange, exchanges}
use Rattle.transformations.proofs.ranges.KeptRanges.{IsKept}
use Rattle.transformations.proofs.lists.ListLemmas.{all_both, all_each, all_false, all_weaker, part_all_of}
use Rattle.transformations.proofs.nodes.NodeLemmas.{row_push, row_without}
use Rattle.transformations.proofs.ranges.MovementRanges.{IsWithinWidest, fixed_part, moved_hold, moved_within, widest_hold}
use Rattle.transformations.proofs.pairs.RingPairs.{not_others}
use Rattle.transformations.specs.History.{next_image}
use Rattle.transformations.specs.Ranges.{in_ranges, moved_by}
use Rattle.transformations.specs.Refusals.{early_refusal_of}
use Rattle.transformations.specs.Rings.{fixed_ring, widest}
use Rattle.transformations.specs.Valid.{IsMovement, IsSound, is_standing}
use Rattle.transformations.specs.declared.command.Command.TheVariants.{Register, Unregister}
use Rattle.transformations.specs.declared.image.Image.{Image}
use Rattle.transformations.specs.declared.keyspace.KeyspaceRow.{KeyspaceRow}
use Rattle.transformations.specs.declared.sequence.SeqRow.{SeqRow}

-- ---- the nodes that have pairs

-- pairs whose nodes have the same rows in some other nodes
abbrev pub HaveRows : Image → List NodeRow → List Pair → Type 0
HaveRows image nodes pairs = AllByRecursion (λ p. row_of image.nodes p.node ≡ row_of nodes p.node) pairs

module _ (image : Image) (epoch next : ℕ) (nodes : List NodeRow) (rows : HaveRows image nodes (widest image)) where
  ranges_rows : (replication : Replication) (x : ℤ) (s : SeqRow) → IsWithinWidest image s → in_ranges image replication s x ≡ in_ranges (record image { epoch = epoch; next = next; nodes = nodes }) replication s x
  unfolding in_ranges
  ranges_rows replication x s within =
      let same : Pair → Type 0 = λ p. row_of image.nodes p.node ≡ row_of nodes p.node in
      reached-nodes image.nodes nodes replication (fixed_ring image) (widest image) (moved_by s) x (part_all_of same (fixed_part image) rows) rows (moved_hold same image s within rows)

  kept_rows : IsSound image → (x : ℤ) → AllByRecursion (IsKept image (record image { epoch = epoch; next = next; nodes = nodes }) x) image.sequences
  kept_rows h x =
      let later : Image = record image { epoch = epoch; next = next; nodes = nodes } in
      all_weaker (IsWithinWidest image) (IsKept image later x)
      (λ s within. all_each (λ (k : KeyspaceRow). in_ranges image k.replication s x ≡ in_ranges later k.replication s x) (λ k. ranges_rows k.replication x s within) image.keyspaces)
      image.sequences (moved_within image h)

-- ---- commands

-- the nodes of pairs stand
pub standing_rows : (image : Image) (more : List NodeRow) → IsSound image → HaveRows image (image.nodes ++ more) (widest image)
standing_rows image more h =
    let same : Pair → Type 0 = λ p. row_of image.nodes p.node ≡ row_of (image.nodes ++ more) p.node in
    widest_hold same image
    (all_weaker (λ (p : Pair). is_standing image.nodes p.node ≡ true) same (λ p up. row_push image.nodes more p.node up) image.tokens h.ring.owners)
    (all_both (IsMovement image) (IsExchange image) (λ (s : SeqRow). AllByRecursion same s.in_pairs)
    (λ s m x. all_weaker (λ (p : Pair). p.node ≡ s.node) same (λ p is. row_push image.nodes more p.node (ap (is_standing image.nodes) is ∙ m.stands)) s.in_pairs x.own) image.sequences h.fitting (exchanges image h))

pub kept_register : (image : Image) (name dc rack : List ℕ) → IsSound image → (x : ℤ) → AllByRecursion (IsKept image (next_image image (Register name dc rack)) x) image.sequences
unfolding next_image
kept_register image name dc rack h x =
    let row : NodeRow = record { id = image.next; name = name; dc = dc; rack = rack; left = false } in
    kept_rows image (image.epoch + 1) (image.next + 1) (image.nodes ++ row ∷ []) (standing_rows image (row ∷ []) h) h x

-- the nodes of pairs are others than one that has none and takes part in no movement
pub remaining_rows : (image : Image) (n : ℕ) → IsSound image → early_refusal_of image (Unregister n) ≡ None → HaveRows image (filter (λ (row : NodeRow). not (row.id == n)) image.nodes) (widest image)
remaining_rows image n h none =
    let a = unregister_accepted image n h.ring none in
    let nodes : List NodeRow = filter (λ (row : NodeRow). not (row.id == n)) image.nodes in
    let other : Pair → Type 0 = λ p. (p.node == n) ≡ false in
    let others : AllByRecursion other (widest image) =
    widest_hold other image (all_false (λ (p : Pair). p.node == n) image.tokens a.1)
    (all_both (IsExchange image) (λ (s : SeqRow). (s.node == n) ≡ false) (λ (s : SeqRow). AllByRecursion other s.in_pairs) (λ s x other. not_others s.node n s.in_pairs other x.own) image.sequences
    (exchanges image h) (apart image n a.0)) in
    all_weaker other (λ (p : Pair). row_of image.nodes p.node ≡ row_of nodes p.node) (λ p apart. sym (row_without image.nodes n p.node apart)) (widest image) others

pub kept_unregister : (image : Image) (n : ℕ) → IsSound image → early_refusal_of image (Unregister n) ≡ None → (x : ℤ) → AllByRecursion (IsKept image (next_image image (Unregister n)) x) image.sequences
unfolding next_image
kept_unregister image n h none x =
    let nodes : List NodeRow = filter (λ (row : NodeRow). not (row.id == n)) image.nodes in
    kept_rows image (image.epoch + 1) image.next nodes (remaining_rows image n h none) h x
