-- A row between cuts stands for its tokens: at each of them the same nodes are read and written as at its last token.
use Rattle.std.proofs.Common.{◌≡◌, Bool, true, false, ℤ, ◌≤ℤ◌, List, filter}
use Rattle.std.proofs.lemmas.Cmp.{int_cmp_total}
use Rattle.std.proofs.lemmas.List.Elements.{All-from_recursion}
use Rattle.std.specs.List.{All, AllByRecursion}
use Rattle.std.specs.List.Sorted.{IsStrictlySortedBy}
use Rattle.std.specs.Ordering.{int_cmp, nat_cmp}
use Rattle.cluster_terms.proofs.lists.AscendingLemmas.{ascending_sorted}
use Rattle.cluster_terms.proofs.placement.PlacementRows.{place-between}
use Rattle.cluster_terms.specs.Arc.{in_arc}
use Rattle.cluster_terms.specs.Ascending.{put_all}
use Rattle.cluster_terms.specs.Pair.{tokens_of}
use Rattle.cluster_terms.specs.Replication.{groups_of}
use Rattle.cluster_terms.specs.Row.{is_within, last_token, rows_between}
use Rattle.cluster_terms.specs.declared.replication.Replication.{Replication}
use Rattle.cluster_terms.specs.declared.row.TokenRange.{TokenRange}
use Rattle.cluster_terms.specs.declared.token.Pair.{Pair}
use Rattle.transformations.proofs.lists.ListLemmas.{IsPart, all_weaker, part_all_of, part_append, part_flat, part_front, part_without_pairs}
use Rattle.transformations.proofs.ranges.MovementRanges.{IsWithinWidest, clear_pairs, moved_within, ranges_between}
use Rattle.transformations.proofs.ranges.RowEndLemmas.{IsUpTo, rows_upto}
use Rattle.transformations.specs.Ranges.{RowsStandInRanges, StandsInRanges}
use Rattle.transformations.specs.Rings.{RowsStandForTokens, StandsForTokens, cuts, has_started, incoming, is_mid, outgoing, reads_at, ring_at, widest, writes_at}
use Rattle.transformations.specs.Valid.{IsSound}
use Rattle.transformations.specs.declared.image.Image.{Image}
use Rattle.transformations.specs.declared.sequence.Phase.{Phase}
use Rattle.transformations.specs.declared.sequence.SeqRow.{SeqRow}

-- cuts ascend
pub cuts_ascend : (image : Image) → IsStrictlySortedBy int_cmp (cuts image)
cuts_ascend image = ascending_sorted int_cmp int_cmp_total (tokens_of (widest image))

-- the pairs of each ring are among the widest pairs
pub ring_part : (applied : Phase → Bool) (image : Image) → IsPart (ring_at applied image) (widest image)
ring_part applied image =
    part_append (part_without_pairs image.tokens (outgoing (filter (λ (s : SeqRow). applied s.phase) image.sequences)))
    (part_flat (λ (s : SeqRow). s.in_pairs) (λ (s : SeqRow). applied s.phase) image.sequences)

module _ (image : Image) (x w : ℤ) (le : x ≤ℤ w) (clear : AllByRecursion (λ t. in_arc x w t ≡ false) (cuts image)) where
  -- no pair of a ring lies from x to w
  pub clear_ring : {ring : List Pair} → IsPart ring (widest image) → AllByRecursion (λ p. in_arc x w p.token ≡ false) ring
  clear_ring part = part_all_of (λ p. in_arc x w p.token ≡ false) part (clear_pairs image x w clear)

  pub reads-between : (r : Replication) → reads_at image r x ≡ reads_at image r w
  unfolding reads_at
  reads-between r = place-between x w le (ring_at is_mid image) (clear_ring (ring_part is_mid image)) (groups_of image.nodes r)

  pub writes-between : (r : Replication) → writes_at image r x ≡ writes_at image r w
  unfolding writes_at
  writes-between r =
      let low = place-between x w le image.tokens (clear_ring (part_front image.tokens (incoming image.sequences))) (groups_of image.nodes r) in
      let high = place-between x w le (ring_at has_started image) (clear_ring (ring_part has_started image)) (groups_of image.nodes r) in
      λ i. put_all nat_cmp (low i) (high i)

-- each row stands for its tokens
pub rows_stand : (image : Image) → RowsStandForTokens image
rows_stand image = λ r.
    All-from_recursion (StandsForTokens image r) (rows_between (cuts image))
    (all_weaker (λ (row : TokenRange). (x : ℤ) → is_within x row ≡ true → IsUpTo (cuts image) x (last_token row.right)) (StandsForTokens image r)
    (λ row upto. record {
      reads = λ x within. (let u = upto x within in reads-between image x (last_token row.right) u.upto u.clear r);
      writes = λ x within. (let u = upto x within in writes-between image x (last_token row.right) u.upto u.clear r);
    })
    (rows_between (cuts image)) (rows_upto (cuts image) (cuts_ascend image)))

-- and so it does in the ranges of each movement
pub ranges_stand : (image : Image) → IsSound image → RowsStandInRanges image
ranges_stand image h = λ r.
    All-from_recursion (λ (s : SeqRow). All (StandsInRanges image r s) (rows_between (cuts image))) image.sequences
    (all_weaker (IsWithinWidest image) (λ (s : SeqRow). All (StandsInRanges image r s) (rows_between (cuts image)))
    (λ s there. All-from_recursion (StandsInRanges image r s) (rows_between (cuts image))
    (all_weaker (λ (row : TokenRange). (x : ℤ) → is_within x row ≡ true → IsUpTo (cuts image) x (last_token row.right)) (StandsInRanges image r s)
    (λ row upto x within. let u = upto x within in ranges_between image x (last_token row.right) u.upto u.clear r s there)
    (rows_between (cuts image)) (rows_upto (cuts image) (cuts_ascend image))))
    image.sequences (moved_within image h))
