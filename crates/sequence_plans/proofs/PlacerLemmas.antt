-- The replicas that a placer gives on a ring, in the terms of the image.
use Rattle.std.proofs.Common.{◌≡◌, ℤ, List, ap, sym, ◌∙◌}
use Rattle.std.specs.List.Sorted.{IsPermutation}
use Rattle.cluster_terms.proofs.placement.PlacementLemmas.{place-permuted}
use Rattle.cluster_terms.specs.Group.{place}
use Rattle.cluster_terms.specs.Replication.{groups_of}
use Rattle.cluster_terms.specs.declared.node.NodeRow.{NodeRow}
use Rattle.cluster_terms.specs.declared.replication.Replication.{Replication}
use Rattle.cluster_terms.specs.declared.token.Pair.{Pair}
use Rattle.transformations.specs.MovementDeltas.{placed_before, placed_with}
use Rattle.transformations.specs.Rings.{low_ring, replaced}
use Rattle.transformations.specs.declared.image.Image.{Image}
use Rattle.transformations.specs.declared.sequence.SeqRow.{SeqRow}
use Rattle.replica_placer.specs.Placers.{PlacesOn, placed_by}
use Rattle.replica_placer.specs.declared.placer.Placer.{Placer}

module _ (image : Image) (nodes : List NodeRow) (r : Replication) (placer : Placer) (made : List Pair) (is : nodes ≡ image.nodes) (on : PlacesOn made nodes r placer) where
  on_ring : (ring : List Pair) → IsPermutation ring made → (x : ℤ) → placed_by placer x ≡ place (groups_of image.nodes r) x ring
  on_ring ring moved x = on x ∙ ap (λ rows. place (groups_of rows r) x made) is ∙ sym (place-permuted ring made moved x (groups_of image.nodes r))

  -- on the low ring, and on the low ring with a movement applied
  pub placed_low : IsPermutation (low_ring image) made → (x : ℤ) → placed_by placer x ≡ placed_before image r x
  unfolding placed_before
  placed_low = on_ring (low_ring image)

  pub placed_moved : (s : SeqRow) → IsPermutation (replaced (low_ring image) s.out_pairs s.in_pairs) made → (x : ℤ) → placed_by placer x ≡ placed_with image r s x
  unfolding placed_with
  placed_moved s = on_ring (replaced (low_ring image) s.out_pairs s.in_pairs)
