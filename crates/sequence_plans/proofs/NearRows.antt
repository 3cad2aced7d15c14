-- The rows between near cuts stand for their tokens.
use Rattle.std.proofs.Common.{◌≡◌, Bool, true, false, ◌&&◌, ℤ, ◌≤ℤ◌, int_le, List, [], ◌∷◌, Option, Some, None, refl, ap, ◌∙◌, arith}
use Rattle.std.proofs.lemmas.Bool.{and_from, and_parts, or_left, or_right}
use Rattle.std.proofs.lemmas.Bool.Decides.{Decides-int_eq}
use Rattle.std.proofs.lemmas.Cmp.{int_eq_equiv}
use Rattle.std.proofs.lemmas.Int.{ints}
use Rattle.std.proofs.lemmas.Map.Made.{is_member-filter}
use Rattle.std.specs.List.{AllByRecursion}
use Rattle.std.specs.List.Sorted.{IsStrictlySortedBy}
use Rattle.std.specs.Ordering.{int_cmp, int_eq}
use Rattle.std.specs.Set.{is_member}
use Rattle.cluster_terms.proofs.placement.GroupLemmas.{or_elim}
use Rattle.cluster_terms.proofs.rows.RowLemmas.{rows_have_last}
use Rattle.cluster_terms.specs.Arc.{IsToken, in_arc}
use Rattle.cluster_terms.specs.Row.{is_past, is_within, last_token, rows_between}
use Rattle.cluster_terms.specs.declared.row.TokenRange.{TokenRange}
use Rattle.cluster_terms.specs.declared.token.RightEnd.{RightEnd}
use Rattle.cluster_terms.specs.declared.token.RightEnd.TheVariants.{At, Max}
use Rattle.token_ring.proofs.RangeLemmas.{member_has, same_tokens}
use Rattle.token_ring.specs.TokenRanges.{AreCutOut, IsRange, IsRangeList, have_token, is_cut_left, is_cut_out, is_cut_right}
use Rattle.transformations.proofs.lists.ListLemmas.{all_both, all_members, all_weaker}
use Rattle.transformations.proofs.ranges.RowEndLemmas.{IsUpTo, rows_upto}
use Rattle.sequence_plans.proofs.NearCutSearch.{near_ascend}
use Rattle.sequence_plans.specs.code.NearCuts.{is_from, is_near, near_cuts, touches}

-- a token past a left end is at it or past it
past_from : (left : Option ℤ) (t w : ℤ) → (is_past left t && int_le t w) ≡ true → (is_from left t && int_le t w) ≡ true
past_from None t w h = h
past_from (Some left) t w h = grind (arith, ints)

-- the tokens of ranges, and those at which they begin, are near
within_near : (ranges : List TokenRange) (t : ℤ) → have_token ranges t ≡ true → is_near ranges t ≡ true
within_near [] t has = has
within_near (r ∷ ranges) t has =
    or_elim (is_within t r) (have_token ranges t) has (λ here. or_left (touches r t) (is_near ranges t) (past_from r.left t (last_token r.right) here))
    (λ later. or_right (touches r t) (is_near ranges t) (within_near ranges t later))

touch_near : (ranges : List TokenRange) → AllByRecursion (λ r. (t : ℤ) → touches r t ≡ true → is_near ranges t ≡ true) ranges
touch_near [] = tt
touch_near (r ∷ ranges) = (
  λ t here. or_left (touches r t) (is_near ranges t) here,
  all_weaker (λ q. (t : ℤ) → touches q t ≡ true → is_near ranges t ≡ true) (λ q. (t : ℤ) → touches q t ≡ true → is_near (r ∷ ranges) t ≡ true)
      (λ q near t here. or_right (touches r t) (is_near ranges t) (near t here)) ranges (touch_near ranges),
)

-- what is known of two tokens, the later one the last token of a row between near cuts: the ranges have both or none,
-- and if they have both, no cut lies from the one up to the other
pub record IsNearRow (cuts : List ℤ) (ranges : List TokenRange) (x w : ℤ) : Type 0 where
  pub same : have_token ranges x ≡ have_token ranges w
  pub upto : have_token ranges w ≡ true → IsUpTo cuts x w

module _ (cuts : List ℤ) (ranges : List TokenRange) (near : List ℤ) (is : near ≡ near_cuts cuts ranges) (up : IsStrictlySortedBy int_cmp cuts) where
  member_near : (t : ℤ) → is_member int_eq cuts t ≡ true → is_near ranges t ≡ true → is_member int_eq near t ≡ true
  member_near t there here =
      ap (λ l. is_member int_eq l t) is
      ∙ is_member-filter int_eq_equiv (is_near ranges) t (λ u same. ap (is_near ranges) ((Decides-int_eq t u).0 same)) cuts
      ∙ and_from (is_member int_eq cuts t) (is_near ranges t) there here

  ascend : IsStrictlySortedBy int_cmp near
  ascend = near_ascend cuts ranges near is up

  -- the bounds of the ranges
  left_near : (left : Option ℤ) (w : ℤ) → (is_past left w && int_le w w) ≡ true → ((t : ℤ) → (is_from left t && int_le t w) ≡ true → is_near ranges t ≡ true) → is_cut_left cuts left ≡ true → is_cut_left near left ≡ true
  left_near None w some here out = refl
  left_near (Some left) w some here out = member_near left out (here left (grind (arith, ints)))

  right_near : (left : Option ℤ) (right : RightEnd) → (is_past left (last_token right) && int_le (last_token right) (last_token right)) ≡ true
      → ((t : ℤ) → (is_from left t && int_le t (last_token right)) ≡ true → is_near ranges t ≡ true) → is_cut_right cuts right ≡ true → is_cut_right near right ≡ true
  right_near left (At right) some here out = member_near right out (here right (past_from left right right some))
  right_near left Max some here out = refl

  module _ (list : IsRangeList ranges) (out : AreCutOut cuts ranges) where
    near_out : AreCutOut near ranges
    near_out =
        all_both (λ r. (t : ℤ) → touches r t ≡ true → is_near ranges t ≡ true) (λ r. IsRange r × (is_cut_out cuts r ≡ true)) (λ r. is_cut_out near r ≡ true)
        (λ r here both.
        let parts = and_parts (is_cut_left cuts r.left) (is_cut_right cuts r.right) both.1 in
        and_from (is_cut_left near r.left) (is_cut_right near r.right) (left_near r.left (last_token r.right) both.0.some here parts.0) (right_near r.left r.right both.0.some here parts.1))
        ranges (touch_near ranges) (all_both IsRange (λ r. is_cut_out cuts r ≡ true) (λ r. IsRange r × (is_cut_out cuts r ≡ true)) (λ r some cut. (some, cut)) ranges list.each out)

    near_row : (x w : ℤ) → IsUpTo near x w → IsToken w → IsNearRow cuts ranges x w
    near_row x w u token = record {
      same = same_tokens near x w ranges u.upto token u.clear near_out;
      upto = λ has. record { upto = u.upto; clear = all_members int_eq int_eq_equiv.refl (λ t. in_arc x w t ≡ false) cuts (λ t there. none has t there (in_arc x w t) refl) };
    }
      where
        -- the ranges contain each cut there, so it is near; but no near cut lies there
        none : have_token ranges w ≡ true → (t : ℤ) → is_member int_eq cuts t ≡ true → (b : Bool) → in_arc x w t ≡ b → in_arc x w t ≡ false
        none has t there false e = e
        none has t there true e =
            let low : x ≤ℤ t = from x w t u.upto e in
            let high : t ≤ℤ w = before x w t u.upto e in
            let clear : AllByRecursion (λ c. in_arc t w c ≡ false) near = all_weaker (λ c. in_arc x w c ≡ false) (λ c. in_arc t w c ≡ false) (λ c away. later x w t c low high away) near u.clear in
            member_has (λ c. in_arc x w c ≡ false) near t (member_near t there (within_near ranges t (same_tokens near t w ranges high token clear near_out ∙ has))) u.clear
          where
            from : (x w t : ℤ) → x ≤ℤ w → in_arc x w t ≡ true → x ≤ℤ t
            from x w t le e = grind (arith, ints)

            before : (x w t : ℤ) → x ≤ℤ w → in_arc x w t ≡ true → t ≤ℤ w
            before x w t le e = grind (arith, ints)

            later : (x w t c : ℤ) → x ≤ℤ t → t ≤ℤ w → in_arc x w c ≡ false → in_arc t w c ≡ false
            later x w t c low high away = grind (arith, ints)

    -- so a row between near cuts stands for its tokens
    pub near_rows : AllByRecursion IsToken near → AllByRecursion (λ row. (x : ℤ) → is_within x row ≡ true → IsNearRow cuts ranges x (last_token row.right)) (rows_between near)
    near_rows tokens =
        all_both (λ row. (x : ℤ) → is_within x row ≡ true → IsUpTo near x (last_token row.right)) (λ row. (is_within (last_token row.right) row ≡ true) × IsToken (last_token row.right))
        (λ row. (x : ℤ) → is_within x row ≡ true → IsNearRow cuts ranges x (last_token row.right)) (λ row upto last x within. near_row x (last_token row.right) (upto x within) last.1)
        (rows_between near) (rows_upto near ascend) (rows_have_last near ascend tokens)
