-- The ranges of movements, row by row: they are the same from a token up to the end of its row between cuts.
use Rattle.std.proofs.Common.{◌≡◌, true, false, ◌&&◌, ◌==◌, ℤ, ◌≤ℤ◌, List, [], ◌∷◌, ◌++◌, find, Option, Some, None, option_map, refl, sym, ◌∙◌, subst}
use Rattle.std.proofs.lemmas.Bool.Decides.{Decides-int_eq}
use Rattle.std.proofs.lemmas.Cmp.{int_cmp_total, int_eq_equiv}
use Rattle.std.proofs.lemmas.Option.{none-some}
use Rattle.std.specs.List.{AllByRecursion, list_any}
use Rattle.std.specs.Ordering.{int_cmp, int_eq}
use Rattle.std.specs.Set.{is_member}
use Rattle.cluster_terms.proofs.lists.AscendingLemmas.{ascending_sorted, member-ascending}
use Rattle.cluster_terms.proofs.rows.PairLemmas.{same_pair-refl, same_pair-tells}
use Rattle.cluster_terms.proofs.reach.ReachLemmas.{reached-between}
use Rattle.cluster_terms.specs.Arc.{IsToken, in_arc}
use Rattle.cluster_terms.specs.Pair.{has_pair, same_pair, tokens_of}
use Rattle.cluster_terms.specs.Replication.{groups_of}
use Rattle.cluster_terms.specs.Row.{last_token, rows_between}
use Rattle.cluster_terms.specs.declared.replication.Replication.{Replication}
use Rattle.cluster_terms.specs.declared.row.TokenRange.{TokenRange}
use Rattle.cluster_terms.specs.declared.token.Pair.{Pair}
use Rattle.cluster_terms.specs.declared.token.RightEnd.{RightEnd}
use Rattle.transformations.proofs.commands.AcceptedLemmas.{mapped_none}
use Rattle.transformations.proofs.movements.ExchangeLemmas.{IsExchange, exchanges}
use Rattle.transformations.proofs.lists.ListLemmas.{IsPart, all_append, all_both, all_flat_map, all_from_map, all_members, all_weaker, found_passes, member_holds, none_found, part_all_of, part_append, part_back, part_filter, part_front, part_none, part_trans, part_without_pairs}
use Rattle.transformations.proofs.ranges.RowEndLemmas.{HasEnd, end_of}
use Rattle.transformations.specs.Ranges.{first_shared, in_both, in_ranges, is_shared, moved_by}
use Rattle.transformations.specs.Rings.{cuts, fixed_ring, incoming, outgoing, widest}
use Rattle.transformations.specs.Valid.{IsSound}
use Rattle.transformations.specs.declared.image.Image.{Image}
use Rattle.transformations.specs.declared.sequence.SeqRow.{SeqRow}

-- ---- what moves stands in the widest set of pairs

abbrev pub IsWithinWidest : Image → SeqRow → Type 0
IsWithinWidest image s = AllByRecursion (λ p. has_pair (widest image) p ≡ true) (moved_by s)

-- some of some pairs are among them
pub part_within : {ps qs : List Pair} → IsPart ps qs → AllByRecursion (λ p. has_pair qs p ≡ true) ps
part_within {qs = qs} part = part_all_of (λ p. has_pair qs p ≡ true) part (all_members same_pair same_pair-refl (λ p. has_pair qs p ≡ true) qs (λ p there. there))

-- each movement brings a part of what all bring
pub parts_incoming : (sequences : List SeqRow) → AllByRecursion (λ (s : SeqRow). IsPart s.in_pairs (incoming sequences)) sequences
parts_incoming [] = tt
parts_incoming (s ∷ sequences) = (
  part_front s.in_pairs (incoming sequences),
  all_weaker (λ (q : SeqRow). IsPart q.in_pairs (incoming sequences)) (λ (q : SeqRow). IsPart q.in_pairs (s.in_pairs ++ incoming sequences))
      (λ q part. part_append (part_none s.in_pairs) part) sequences (parts_incoming sequences),
)

-- what a movement takes out is a part of the ring
pub part_taken : (image : Image) (s : SeqRow) → IsExchange image s → IsPart s.out_pairs image.tokens
part_taken image s x = subst (λ out. IsPart out image.tokens) (sym x.out) (part_filter (λ (p : Pair). p.node == x.from) image.tokens)

pub moved_within : (image : Image) → IsSound image → AllByRecursion (IsWithinWidest image) image.sequences
moved_within image h =
    all_both (IsExchange image) (λ (s : SeqRow). IsPart s.in_pairs (incoming image.sequences)) (IsWithinWidest image)
    (λ s x part. all_append (λ p. has_pair (widest image) p ≡ true) s.out_pairs s.in_pairs
    (part_within (part_trans (part_taken image s x) (part_front image.tokens (incoming image.sequences))))
    (part_within (part_trans part (part_back image.tokens (incoming image.sequences)))))
    image.sequences (exchanges image h) (parts_incoming image.sequences)

-- what holds of each pair of the widest set holds of the fixed pairs and of what moves
pub fixed_part : (image : Image) → IsPart (fixed_ring image) (widest image)
fixed_part image = part_trans (part_without_pairs image.tokens (outgoing image.sequences)) (part_front image.tokens (incoming image.sequences))

pub moved_hold : (P : Pair → Type 0) (image : Image) (s : SeqRow) → IsWithinWidest image s → AllByRecursion P (widest image) → AllByRecursion P (moved_by s)
moved_hold P image s within all =
    all_weaker (λ p. has_pair (widest image) p ≡ true) P (member_holds same_pair same_pair-tells P (widest image) all) (moved_by s) within

-- what holds of each pair of the ring and of each that a movement brings
pub widest_hold : (P : Pair → Type 0) (image : Image) → AllByRecursion P image.tokens → AllByRecursion (λ (s : SeqRow). AllByRecursion P s.in_pairs) image.sequences → AllByRecursion P (widest image)
widest_hold P image tokens brought = all_append P image.tokens (incoming image.sequences) tokens (all_flat_map P (λ (s : SeqRow). s.in_pairs) image.sequences brought)

-- ---- from a token up to the end of its row

-- no pair lies where no cut does
pub clear_pairs : (image : Image) (x w : ℤ) → AllByRecursion (λ t. in_arc x w t ≡ false) (cuts image) → AllByRecursion (λ p. in_arc x w p.token ≡ false) (widest image)
clear_pairs image x w clear =
    let tokens : List ℤ = tokens_of (widest image) in
    let out : ℤ → Type 0 = λ t. in_arc x w t ≡ false in
    let holds : (t : ℤ) → is_member int_eq (cuts image) t ≡ true → out t = member_holds int_eq (λ t u. (Decides-int_eq t u).0) out (cuts image) clear in
    all_from_map out (λ (p : Pair). p.token) (widest image)
    (all_members int_eq int_eq_equiv.refl out tokens (λ t there. holds t (member-ascending int_cmp int_cmp_total tokens t ∙ there)))

module _ (image : Image) (x w : ℤ) (le : x ≤ℤ w) (clear : AllByRecursion (λ t. in_arc x w t ≡ false) (cuts image)) where
  -- the ranges of a movement have both or neither of x and w
  pub ranges_between : (replication : Replication) (s : SeqRow) → IsWithinWidest image s → in_ranges image replication s x ≡ in_ranges image replication s w
  unfolding in_ranges
  ranges_between replication s within =
      let out : Pair → Type 0 = λ p. in_arc x w p.token ≡ false in
      let all : AllByRecursion out (widest image) = clear_pairs image x w clear in
      reached-between (groups_of image.nodes replication) (fixed_ring image) (widest image) (moved_by s) x w le (part_all_of out (fixed_part image) all) (moved_hold out image s within all)

  pub both_between : (s q : SeqRow) → IsWithinWidest image s → IsWithinWidest image q → in_both image s q x ≡ in_both image s q w
  both_between s q one other =
      λ i. list_any (λ k. ranges_between k.replication s one i && ranges_between k.replication q other i) image.keyspaces

-- ---- shared rows

-- where no row between cuts is in the ranges of both, no token is
pub none_shared : (image : Image) (s q : SeqRow) → IsWithinWidest image s → IsWithinWidest image q → first_shared image s q ≡ None → (x : ℤ) → IsToken x → in_both image s q x ≡ false
none_shared image s q one other none x token =
    let rows = none_found (is_shared image s q) (rows_between (cuts image)) (mapped_none (λ (row : TokenRange). row.right) (find (is_shared image s q) (rows_between (cuts image))) none) in
    let end : HasEnd (λ w. in_both image s q w ≡ false) (cuts image) x = end_of (λ w. in_both image s q w ≡ false) x token.1 (cuts image) (ascending_sorted int_cmp int_cmp_total (tokens_of (widest image))) rows in
    both_between image x end.last end.upto end.clear s q one other ∙ end.holds

-- the last token of the row that is found is in the ranges of both
pub shared_found : (image : Image) (s q : SeqRow) (right : RightEnd) → first_shared image s q ≡ Some right → in_both image s q (last_token right) ≡ true
shared_found image s q right some = by (find (is_shared image s q) (rows_between (cuts image))) refl some
  where
    by : (o : Option TokenRange) → find (is_shared image s q) (rows_between (cuts image)) ≡ o → option_map (λ (row : TokenRange). row.right) o ≡ Some right → in_both image s q (last_token right) ≡ true
    by None found is = absurd (none-some right is)
    by (Some row) found is =
        let same : row.right ≡ right = cc in
        subst (λ end. in_both image s q (last_token end) ≡ true) same (found_passes (is_shared image s q) (rows_between (cuts image)) row found)
