-- A row between cuts stands for its tokens in the placements before a movement and with it.
use Rattle.std.proofs.Common.{◌≡◌, true, false, ℤ, ◌≤ℤ◌}
use Rattle.std.proofs.lemmas.List.Elements.{All-from_recursion}
use Rattle.std.specs.List.{All, AllByRecursion}
use Rattle.cluster_terms.proofs.placement.PlacementRows.{place-between}
use Rattle.cluster_terms.specs.Arc.{in_arc}
use Rattle.cluster_terms.specs.Replication.{groups_of}
use Rattle.cluster_terms.specs.Row.{is_within, last_token, rows_between}
use Rattle.cluster_terms.specs.declared.replication.Replication.{Replication}
use Rattle.cluster_terms.specs.declared.row.TokenRange.{TokenRange}
use Rattle.transformations.proofs.lists.ListLemmas.{IsPart, all_weaker, part_append, part_front, part_without_pairs}
use Rattle.transformations.proofs.ranges.MovementRanges.{parts_incoming}
use Rattle.transformations.proofs.ranges.RowEndLemmas.{IsUpTo, rows_upto}
use Rattle.transformations.proofs.ranges.RowsServed.{clear_ring, cuts_ascend}
use Rattle.transformations.specs.MovementDeltas.{RowsStandForDeltas, StandsForDeltas, placed_before, placed_with}
use Rattle.transformations.specs.Rings.{cuts, incoming, low_ring, replaced, widest}
use Rattle.transformations.specs.declared.image.Image.{Image}
use Rattle.transformations.specs.declared.sequence.SeqRow.{SeqRow}

-- the low ring, and the low ring with a movement applied, are among the widest pairs
pub low_part : (image : Image) → IsPart (low_ring image) (widest image)
low_part image = part_front image.tokens (incoming image.sequences)

abbrev pub IsWithPart : Image → SeqRow → Type 0
IsWithPart image s = IsPart (replaced (low_ring image) s.out_pairs s.in_pairs) (widest image)

pub with_parts : (image : Image) → AllByRecursion (IsWithPart image) image.sequences
with_parts image =
    all_weaker (λ (s : SeqRow). IsPart s.in_pairs (incoming image.sequences)) (IsWithPart image) (λ s part. part_append (part_without_pairs image.tokens s.out_pairs) part) image.sequences
    (parts_incoming image.sequences)

module _ (image : Image) (x w : ℤ) (le : x ≤ℤ w) (clear : AllByRecursion (λ t. in_arc x w t ≡ false) (cuts image)) (r : Replication) where
  pub before-between : placed_before image r x ≡ placed_before image r w
  unfolding placed_before
  before-between = place-between x w le (low_ring image) (clear_ring image x w le clear (low_part image)) (groups_of image.nodes r)

  pub with-between : (s : SeqRow) → IsWithPart image s → placed_with image r s x ≡ placed_with image r s w
  unfolding placed_with
  with-between s part = place-between x w le (replaced (low_ring image) s.out_pairs s.in_pairs) (clear_ring image x w le clear part) (groups_of image.nodes r)

-- each row stands for its tokens, for each movement
pub deltas_stand : (image : Image) → RowsStandForDeltas image
deltas_stand image = λ r.
    All-from_recursion (λ (s : SeqRow). All (StandsForDeltas image r s) (rows_between (cuts image))) image.sequences
    (all_weaker (IsWithPart image) (λ (s : SeqRow). All (StandsForDeltas image r s) (rows_between (cuts image)))
    (λ s part. All-from_recursion (StandsForDeltas image r s) (rows_between (cuts image))
    (all_weaker (λ (row : TokenRange). (x : ℤ) → is_within x row ≡ true → IsUpTo (cuts image) x (last_token row.right)) (StandsForDeltas image r s)
    (λ row upto. record {
      before = λ x within. (let u = upto x within in before-between image x (last_token row.right) u.upto u.clear r);
      applied = λ x within. (let u = upto x within in with-between image x (last_token row.right) u.upto u.clear r s part);
    })
    (rows_between (cuts image)) (rows_upto (cuts image) (cuts_ascend image))))
    image.sequences (with_parts image))
