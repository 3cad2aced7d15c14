-- Overlaps of movements, by the rows between the cuts that are tokens.
use Rattle.std.proofs.Common.{◌≡◌, Bool, true, false, ◌||◌, cond, ℤ, ◌≤ℤ◌, List, [], ◌∷◌, filter, find, Some, option_map, is_some, refl, ap, sym, ◌∙◌, arith}
use Rattle.std.proofs.lemmas.Cmp.{int_cmp_total}
use Rattle.std.proofs.lemmas.Int.{ints}
use Rattle.std.proofs.lemmas.List.Kept.{IsStrictlySortedBy-filter}
use Rattle.std.specs.List.{AllByRecursion, list_any}
use Rattle.std.specs.List.Sorted.{IsStrictlySortedBy}
use Rattle.std.specs.Ordering.{int_cmp}
use Rattle.cluster_terms.proofs.lists.AscendingLemmas.{ascending_sorted}
use Rattle.cluster_terms.proofs.rows.RowLemmas.{rows_have_last}
use Rattle.cluster_terms.specs.Arc.{IsToken, in_arc}
use Rattle.cluster_terms.specs.Pair.{tokens_of}
use Rattle.cluster_terms.specs.Row.{is_within, last_token, rows_between}
use Rattle.cluster_terms.specs.declared.row.TokenRange.{TokenRange}
use Rattle.transformations.proofs.lists.ListLemmas.{all_both, all_each, all_false, all_filter, all_weaker, any_false, filter_all}
use Rattle.transformations.proofs.ranges.MovementRanges.{IsWithinWidest, both_between}
use Rattle.transformations.proofs.ranges.RowEndLemmas.{HasEnd, end_of}
use Rattle.transformations.specs.ImageRules.{is_token, overlap, token_rows}
use Rattle.transformations.specs.Ranges.{first_shared, in_both, is_shared}
use Rattle.transformations.specs.Rings.{cuts, widest}
use Rattle.transformations.specs.declared.image.Image.{Image}
use Rattle.transformations.specs.declared.sequence.SeqRow.{SeqRow}

-- ---- cuts that are tokens

tells_token : (t : ℤ) → is_token t ≡ true → IsToken t
tells_token t is = (grind (arith, ints), grind (arith, ints))

told_token : (t : ℤ) → IsToken t → is_token t ≡ true
told_token t token = grind (arith, ints, token.0, token.1)

-- what is no token lies in no arc from a token up to a later one
outside : (x w t : ℤ) → IsToken x → IsToken w → x ≤ℤ w → is_token t ≡ false → in_arc x w t ≡ false
outside x w t start end le other = grind (arith, ints, start.0, end.1)

clear_more : (x w : ℤ) → IsToken x → IsToken w → x ≤ℤ w → (ts : List ℤ) → AllByRecursion (λ t. in_arc x w t ≡ false) (filter is_token ts) → AllByRecursion (λ t. in_arc x w t ≡ false) ts
clear_more x w start end le [] all = tt
clear_more x w start end le (t ∷ ts) all = by (is_token t) refl all (clear_more x w start end le ts)
  where
    by : (b : Bool) → is_token t ≡ b → AllByRecursion (λ t. in_arc x w t ≡ false) (cond b (t ∷ filter is_token ts) (filter is_token ts))
        → (AllByRecursion (λ t. in_arc x w t ≡ false) (filter is_token ts) → AllByRecursion (λ t. in_arc x w t ≡ false) ts) → AllByRecursion (λ t. in_arc x w t ≡ false) (t ∷ ts)
    by true is all rest = (all.0, rest all.1)
    by false is all rest = (outside x w t start end le is, rest all)

module _ (image : Image) where
  sorted : IsStrictlySortedBy int_cmp (filter is_token (cuts image))
  sorted = IsStrictlySortedBy-filter int_cmp is_token (cuts image) (ascending_sorted int_cmp int_cmp_total (tokens_of (widest image)))

  ends : AllByRecursion (λ (row : TokenRange). (is_within (last_token row.right) row ≡ true) × IsToken (last_token row.right)) (token_rows image)
  ends = rows_have_last (filter is_token (cuts image)) sorted (all_filter is_token IsToken (cuts image) (all_each (λ t. is_token t ≡ true → IsToken t) tells_token (cuts image)))

  -- ---- movements that share no row

  -- where no row is in the ranges of both, no token is
  pub none_common : (s q : SeqRow) → IsWithinWidest image s → IsWithinWidest image q → overlap image s q ≡ false → (x : ℤ) → IsToken x → in_both image s q x ≡ false
  none_common s q one other none x token =
      let Q : ℤ → Type 0 = λ w. (in_both image s q w ≡ false) × IsToken w in
      let rows : AllByRecursion (λ (row : TokenRange). Q (last_token row.right)) (token_rows image) =
      all_both (λ (row : TokenRange). is_shared image s q row ≡ false) (λ (row : TokenRange). (is_within (last_token row.right) row ≡ true) × IsToken (last_token row.right)) (λ (row : TokenRange). Q (last_token row.right))
      (λ row free last. (free, last.1)) (token_rows image) (all_false (is_shared image s q) (token_rows image) none) ends in
      let end : HasEnd Q (filter is_token (cuts image)) x = end_of Q x token.1 (filter is_token (cuts image)) sorted rows in
      both_between image x end.last end.upto (clear_more x end.last token end.holds.1 end.upto (cuts image) end.clear) s q one other ∙ end.holds.0

  -- and the other way round
  pub no_overlap : (s q : SeqRow) → ((x : ℤ) → IsToken x → in_both image s q x ≡ false) → overlap image s q ≡ false
  no_overlap s q apart =
      any_false (is_shared image s q) (token_rows image)
      (all_weaker (λ (row : TokenRange). (is_within (last_token row.right) row ≡ true) × IsToken (last_token row.right)) (λ (row : TokenRange). is_shared image s q row ≡ false)
      (λ row last. apart (last_token row.right) last.1) (token_rows image) ends)

-- ---- the first row that is shared

found_any : {X Y : Type 0} (f : X → Y) (p : X → Bool) (xs : List X) → is_some (option_map f (find p xs)) ≡ list_any p xs
found_any f p [] = refl
found_any f p (x ∷ xs) = by (p x) (found_any f p xs)
  where
    by : (b : Bool) → is_some (option_map f (find p xs)) ≡ list_any p xs → is_some (option_map f (cond b (Some x) (find p xs))) ≡ (b || list_any p xs)
    by true rest = refl
    by false rest = rest

-- where the cuts are tokens, movements overlap if and only if they share a row between cuts
pub overlap_shared : (image : Image) → AllByRecursion IsToken (cuts image) → (s q : SeqRow) → is_some (first_shared image s q) ≡ overlap image s q
overlap_shared image tokens s q =
    let whole : filter is_token (cuts image) ≡ cuts image = filter_all is_token (cuts image) (all_weaker IsToken (λ t. is_token t ≡ true) told_token (cuts image) tokens) in
    found_any (λ (row : TokenRange). row.right) (is_shared image s q) (rows_between (cuts image)) ∙ ap (λ ts. list_any (is_shared image s q) (rows_between ts)) (sym whole)
