-- What the ranges of a sound image's movements are taken from, and that they are its ranges.
use Rattle.std.proofs.Common.{◌≡◌, Bool, true, ℤ, List, ◌++◌, IsTrue, sym, ap, ◌∙◌}
use Rattle.std.proofs.lemmas.Bool.Decides.{Decides-int_eq}
use Rattle.std.proofs.lemmas.Cmp.{int_cmp_total, int_eq_equiv}
use Rattle.std.proofs.lemmas.List.Folds.{list_any-append}
use Rattle.std.proofs.lemmas.List.Sorted.{list_any-IsPermutation}
use Rattle.std.specs.List.{AllByRecursion}
use Rattle.std.specs.List.Sorted.{IsPermutation}
use Rattle.std.specs.Ordering.{int_cmp, int_eq}
use Rattle.std.specs.Set.{is_member}
use Rattle.cluster_terms.proofs.lists.AscendingLemmas.{member-ascending}
use Rattle.cluster_terms.proofs.placement.GroupLemmas.{or_elim}
use Rattle.cluster_terms.proofs.reach.ReachSame.{reached-same}
use Rattle.cluster_terms.specs.Pair.{has_pair, same_pair, tokens_of}
use Rattle.cluster_terms.specs.Reach.{is_reached}
use Rattle.cluster_terms.specs.Replication.{groups_of}
use Rattle.cluster_terms.specs.declared.node.NodeRow.{NodeRow}
use Rattle.cluster_terms.specs.declared.replication.Replication.{Replication}
use Rattle.cluster_terms.specs.declared.row.TokenRange.{TokenRange}
use Rattle.cluster_terms.specs.declared.token.Pair.{Pair}
use Rattle.node_directory.proofs.DirectoryLemmas.{directory_rows}
use Rattle.node_directory.specs.Directory.{is_directory}
use Rattle.token_ring.proofs.BoundLemmas.{out_more}
use Rattle.token_ring.proofs.DistinctLemmas.{distinct_tokens}
use Rattle.token_ring.proofs.OrderLemmas.{has_token-IsPermutation}
use Rattle.token_ring.specs.TokenRanges.{AreCutOut, HaveTokens}
use Rattle.token_ring.specs.Ring.{are_distinct}
use Rattle.transformations.proofs.lists.ListLemmas.{IsPart, all_from_map, all_map, all_members, member_holds, part_all_of, part_distinct, part_front, part_map, part_trans, part_without_pairs}
use Rattle.transformations.proofs.ranges.MovementRanges.{fixed_part, moved_hold}
use Rattle.transformations.specs.Ranges.{in_ranges, moved_by}
use Rattle.transformations.specs.Rings.{cuts, fixed_ring, outgoing, widest}
use Rattle.transformations.specs.Valid.{IsSound, brought}
use Rattle.transformations.specs.declared.image.Image.{Image}
use Rattle.transformations.specs.declared.sequence.SeqRow.{SeqRow}
use Rattle.sequence_plans.specs.code.Basis.{MovesWithin}

-- ---- the rings and the nodes of a sound image

-- the fixed ring has no token twice
pub fixed_tokens : (image : Image) → IsSound image → are_distinct (tokens_of (fixed_ring image)) ≡ true
fixed_tokens image sound =
    let stays : IsPart (fixed_ring image) (image.tokens ++ brought image.sequences) =
    part_trans (part_without_pairs image.tokens (outgoing image.sequences)) (part_front image.tokens (brought image.sequences)) in
    distinct_tokens (tokens_of (fixed_ring image)) (part_distinct int_eq (part_map (λ (p : Pair). p.token) stays) sound.fresh)

-- its nodes make a directory
pub valid_rows : (image : Image) → IsSound image → IsTrue (is_directory 1 image.nodes image.next)
valid_rows image sound = directory_rows image.nodes image.next sound.nodes.ascending sound.nodes.within sound.nodes.distinct

-- ---- the ranges of a movement

module _ (image : Image) (s : SeqRow) (fixed moved : List Pair) (permuted : IsPermutation (fixed_ring image) fixed) (moves : moved ≡ moved_by s) where
  same_fixed : (p : Pair) → has_pair fixed p ≡ has_pair (fixed_ring image) p
  same_fixed p = sym (list_any-IsPermutation (same_pair p) (fixed_ring image) fixed permuted)

  -- what is reached on the fixed ring, in any order
  pub reached-ranges : (replication : Replication) (nodes : List NodeRow) (wide : List Pair) → nodes ≡ image.nodes → wide ≡ widest image → (x : ℤ)
      → is_reached (groups_of nodes replication) fixed wide moved x ≡ in_ranges image replication s x
  unfolding in_ranges
  reached-ranges replication nodes wide same_nodes same_wide x =
      reached-same (groups_of nodes replication) fixed wide (fixed_ring image) (widest image) moved (moved_by s) x same_fixed
      (λ p. ap (λ ps. has_pair ps p) same_wide) (λ p. ap (λ ps. has_pair ps p) moves)
      ∙ ap (λ rows. is_reached (groups_of rows replication) (fixed_ring image) (widest image) (moved_by s) x) same_nodes

  -- each token of the widest set is a cut
  abbrev IsCut : ℤ → Type 0
  IsCut t = is_member int_eq (cuts image) t ≡ true

  cut_tokens : AllByRecursion (λ (p : Pair). IsCut p.token) (widest image)
  cut_tokens =
      let tokens : List ℤ = tokens_of (widest image) in
      all_from_map IsCut (λ (p : Pair). p.token) (widest image)
      (all_members int_eq int_eq_equiv.refl IsCut tokens (λ t there. member-ascending int_cmp int_cmp_total tokens t ∙ there))

  among : (pairs : List Pair) → AllByRecursion (λ (p : Pair). IsCut p.token) pairs → (t : ℤ) → is_member int_eq (tokens_of pairs) t ≡ true → IsCut t
  among pairs all t there =
      member_holds int_eq (λ t u. (Decides-int_eq t u).0) IsCut (tokens_of pairs) (all_map IsCut (λ (p : Pair). p.token) pairs all) t there

  -- so ranges that tokens of the fixed ring and of the movement bound are bounded by cuts
  pub bounded-ranges : MovesWithin image s → (ranges : List TokenRange) → AreCutOut (tokens_of fixed ++ tokens_of moved) ranges → AreCutOut (cuts image) ranges
  bounded-ranges within ranges out = out_more (tokens_of fixed ++ tokens_of moved) (cuts image) bounds ranges out
    where
      bounds : (t : ℤ) → is_member int_eq (tokens_of fixed ++ tokens_of moved) t ≡ true → IsCut t
      bounds t there =
          or_elim (is_member int_eq (tokens_of fixed) t) (is_member int_eq (tokens_of moved) t) (sym (list_any-append (int_eq t) (tokens_of fixed) (tokens_of moved)) ∙ there)
          (λ stays. among (fixed_ring image) (part_all_of (λ (p : Pair). IsCut p.token) (fixed_part image) cut_tokens) t
          (sym (has_token-IsPermutation (fixed_ring image) fixed t permuted) ∙ stays))
          (λ goes. among (moved_by s) (moved_hold (λ (p : Pair). IsCut p.token) image s within cut_tokens) t
          (ap (λ ps. is_member int_eq (tokens_of ps) t) (sym moves) ∙ goes))

-- ranges have the tokens of each test that is the same
pub have_tokens-same : (test other : ℤ → Bool) → ((x : ℤ) → test x ≡ other x) → (ranges : List TokenRange) → HaveTokens test ranges → HaveTokens other ranges
have_tokens-same test other same ranges have t token = have t token ∙ same t
