-- The placement maps of an image without movements: its three rings are one.
use Rattle.std.proofs.Common.{◌≡◌, ℕ, Bool, true, false, ◌||◌, ℤ, List, [], ◌∷◌, map, filter, nat_eq, None, refl, sym, ap, ◌∙◌}
use Rattle.std.proofs.lemmas.List.{append-nil}
use Rattle.std.proofs.lemmas.Map.Keys.{IsStrictlyIncreasing-from_sorted}
use Rattle.std.specs.List.Sorted.{IsPermutation, IsStrictlyIncreasing}
use Rattle.std.specs.Ordering.{nat_cmp}
use Rattle.std.specs.Set.{is_member}
use Rattle.cluster_terms.proofs.lists.AscendingNumbers.{ascending_from_same_members, ascending_same_numbers, member-put_all_numbers, put_all_increases}
use Rattle.cluster_terms.proofs.placement.PlacementCounts.{place_ascends}
use Rattle.cluster_terms.proofs.placement.PlacementLemmas.{place-permuted}
use Rattle.cluster_terms.specs.Ascending.{put_all}
use Rattle.cluster_terms.specs.Group.{Group, place}
use Rattle.cluster_terms.specs.Pair.{without_pairs}
use Rattle.cluster_terms.specs.Replication.{groups_of}
use Rattle.cluster_terms.specs.Row.{last_token, rows_between}
use Rattle.cluster_terms.specs.declared.node.NodeRow.{NodeRow}
use Rattle.cluster_terms.specs.declared.replication.Replication.{Replication}
use Rattle.cluster_terms.specs.declared.row.TokenRange.{TokenRange}
use Rattle.cluster_terms.specs.declared.token.Pair.{Pair}
use Rattle.cluster_terms.specs.declared.token.RightEnd.TheVariants.{Max}
use Rattle.replica_placer.specs.Placers.{PlacesOn, placed_by}
use Rattle.replica_placer.specs.declared.placer.Placer.{Placer}
use Rattle.transformations.specs.Rings.{cuts, cuts_among, has_started, high_ring, incoming, is_mid, outgoing, read_ring, reads_at, replaced, writes_at}
use Rattle.transformations.specs.declared.image.Image.{Image}
use Rattle.transformations.specs.declared.sequence.Phase.{Phase}
use Rattle.transformations.specs.declared.sequence.SeqRow.{SeqRow}
use Rattle.placement_maps.specs.code.MapBasis.{one_row_without_nodes, row_placed_once}
use Rattle.placement_maps.specs.Maps.{placement_row, placement_rows}

pub without_none : (ring : List Pair) → without_pairs ring [] ≡ ring
without_none [] = refl
without_none (p ∷ ring) = ap (λ l. p ∷ l) (without_none ring)

or_same : (b : Bool) → (b || b) ≡ b
or_same true = refl
or_same false = refl

-- the union of a set with itself
union_same : (ns : List ℕ) → IsStrictlyIncreasing ns → put_all nat_cmp ns ns ≡ ns
union_same ns up =
    ascending_from_same_members (put_all nat_cmp ns ns) ns (put_all_increases ns ns up) (λ v. member-put_all_numbers ns ns v ∙ or_same (is_member nat_eq ns v)) ∙ ascending_same_numbers ns up

-- on a ring without pairs there are no replicas
nobody : (groups : List Group) (x : ℤ) → place groups x [] ≡ []
unfolding place
nobody groups x = refl

module _ (image : Image) (idle : image.sequences ≡ []) where
  one_ring : (applied : Phase → Bool) → replaced image.tokens (outgoing (filter (λ s. applied s.phase) image.sequences)) (incoming (filter (λ s. applied s.phase) image.sequences)) ≡ image.tokens
  one_ring applied =
      ap (λ (rows : List SeqRow). replaced image.tokens (outgoing (filter (λ s. applied s.phase) rows)) (incoming (filter (λ s. applied s.phase) rows))) idle
      ∙ append-nil (without_pairs image.tokens []) ∙ without_none image.tokens

  -- without tokens there is one row, and no node is read or written
  module _ (none : image.tokens ≡ []) (r : Replication) where
    no_reads : (x : ℤ) → place (groups_of image.nodes r) x (read_ring image) ≡ []
    no_reads x = ap (place (groups_of image.nodes r) x) (one_ring is_mid ∙ none) ∙ nobody (groups_of image.nodes r) x

    no_writes : (x : ℤ) → put_all nat_cmp (place (groups_of image.nodes r) x image.tokens) (place (groups_of image.nodes r) x (high_ring image)) ≡ []
    no_writes x =
        let groups = groups_of image.nodes r in
        ap (λ ring. put_all nat_cmp (place groups x image.tokens) (place groups x ring)) (one_ring has_started)
        ∙ ap (λ ring. put_all nat_cmp (place groups x ring) (place groups x ring)) none ∙ ap (λ ns. put_all nat_cmp ns ns) (nobody groups x)

    row_empty : (range : TokenRange) → placement_row image r range ≡ record { right = range.right; reads = []; writes = [] }
    unfolding reads_at writes_at
    row_empty range = λ i. record { right = range.right; reads = no_reads (last_token range.right) i; writes = no_writes (last_token range.right) i }

    pub no_cuts : cuts image ≡ []
    no_cuts = ap (λ (rows : List SeqRow). cuts_among image.tokens rows) idle ∙ ap (λ (ring : List Pair). cuts_among ring []) none

    pub empty_rows : placement_rows image r ≡ one_row_without_nodes
    empty_rows = ap (λ cuts. map (placement_row image r) (rows_between cuts)) no_cuts ∙ (λ i. row_empty (record { left = None; right = Max }) i ∷ [])

  module _ (made : List Pair) (nodes : List NodeRow) (r : Replication) (placer : Placer) (moved : IsPermutation image.tokens made) (is : nodes ≡ image.nodes) (on : PlacesOn made nodes r placer) where
    placed_once : (x : ℤ) → placed_by placer x ≡ place (groups_of image.nodes r) x image.tokens
    placed_once x = on x ∙ ap (λ rows. place (groups_of rows r) x made) is ∙ sym (place-permuted image.tokens made moved x (groups_of image.nodes r))

    row_idle : (range : TokenRange) → row_placed_once placer range ≡ placement_row image r range
    unfolding reads_at writes_at
    row_idle range =
        let x = last_token range.right in
        let groups = groups_of image.nodes r in
        let placed = placed_once x in
        let reads : placed_by placer x ≡ place groups x (read_ring image) = placed ∙ ap (place groups x) (sym (one_ring is_mid)) in
        let writes : placed_by placer x ≡ put_all nat_cmp (place groups x image.tokens) (place groups x (high_ring image)) =
        placed ∙ sym (union_same (place groups x image.tokens) (IsStrictlyIncreasing-from_sorted (place groups x image.tokens) (place_ascends groups x image.tokens))) ∙ ap (λ ring. put_all nat_cmp (place groups x image.tokens) (place groups x ring)) (sym (one_ring has_started)) in
        λ i. record { right = range.right; reads = reads i; writes = writes i }

    -- the rows that are placed once are the map
    pub idle_rows : (ranges : List TokenRange) → ranges ≡ rows_between (cuts image) → map (row_placed_once placer) ranges ≡ placement_rows image r
    idle_rows ranges ends = each ranges ∙ ap (map (placement_row image r)) ends
      where
        each : (ranges : List TokenRange) → map (row_placed_once placer) ranges ≡ map (placement_row image r) ranges
        each [] = refl
        each (range ∷ ranges) = λ i. row_idle range i ∷ each ranges i
