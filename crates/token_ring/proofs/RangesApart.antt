-- Lists of ranges that share no token, as one pass over both shows.
use Rattle.std.proofs.Common.{◌≡◌, ℕ, zero, suc, ◌+◌, ◌<◌, Bool, true, false, ◌&&◌, ◌||◌, ℤ, int_lt, int_le, List, [], ◌∷◌, length, get_or, drop, Option, Some, None, option_map, find, if◌then◌else◌, refl, sym, ap, ◌∙◌, subst, arith}
use Rattle.std.proofs.lemmas.Bool.{and_parts, false≢true, true≢false}
use Rattle.std.proofs.lemmas.Int.{ints}
use Rattle.std.proofs.lemmas.List.{drop_more}
use Rattle.cluster_terms.specs.Row.{last_token, is_past, is_within, rows_between}
use Rattle.cluster_terms.specs.declared.row.TokenRange.{TokenRange}
use Rattle.cluster_terms.specs.declared.token.RightEnd.{RightEnd}
use Rattle.cluster_terms.specs.declared.token.RightEnd.TheVariants.{At, Max}
use Rattle.token_ring.specs.TokenRanges.{have_token, ends_before, IsRangeList, is_common, first_common_end}
use Rattle.token_ring.specs.code.EndedRanges.{ends_by}
use Rattle.token_ring.proofs.RangeLemmas.{list_tail, none_later, pairs_head}

-- ---- a range that ends by the begin of a list

-- a token up to a right end is not past a left end that this right end is not past
not_past_by : (right : RightEnd) (left : Option ℤ) (t : ℤ) → ends_by right left ≡ true → int_le t (last_token right) ≡ true → is_past left t ≡ false
not_past_by (At right) (Some left) t ends upto = grind (arith, ints)
not_past_by (At right) None t ends upto = absurd (false≢true ends)
not_past_by Max left t ends upto = absurd (false≢true ends)

-- a token that is not past a left end is not after one that is
not_after : (left : Option ℤ) (t w : ℤ) → is_past left t ≡ false → is_past left w ≡ true → int_lt w t ≡ false
not_after None t w out within = absurd (true≢false out)
not_after (Some left) t w out within = grind (arith, ints)

-- the list has no token of the range
none_of_range : (x y : TokenRange) (ys : List TokenRange) (t : ℤ) → IsRangeList (y ∷ ys) → ends_by x.right y.left ≡ true → is_within t x ≡ true → have_token (y ∷ ys) t ≡ false
none_of_range x y ys t list ends within =
    let upto = and_parts (is_past x.left t) (int_le t (last_token x.right)) within in
    let some = and_parts (is_past y.left (last_token y.right)) (int_le (last_token y.right) (last_token y.right)) list.each.0.some in
    let past : is_past y.left t ≡ false = not_past_by x.right y.left t ends upto.1 in
    let later : have_token ys t ≡ false =
    none_later y.right ys t (pairs_head (λ r s. ends_before r.right s.left ≡ true) y ys list.apart) (not_after y.left t (last_token y.right) past some.0) in
    (λ i. (past i && int_le t (last_token y.right)) || later i)

and_false : (b : Bool) → (b && false) ≡ false
and_false true = refl
and_false false = refl

-- so the range has no token in common with the list
skip_one : (x : TokenRange) (xs : List TokenRange) (y : TokenRange) (ys : List TokenRange) (t : ℤ) → IsRangeList (y ∷ ys) → ends_by x.right y.left ≡ true
    → (have_token (x ∷ xs) t && have_token (y ∷ ys) t) ≡ (have_token xs t && have_token (y ∷ ys) t)
skip_one x xs y ys t list ends = by (is_within t x) refl
  where
    by : (b : Bool) → is_within t x ≡ b → ((is_within t x || have_token xs t) && have_token (y ∷ ys) t) ≡ (have_token xs t && have_token (y ∷ ys) t)
    by true within =
        let none = none_of_range x y ys t list ends within in
        ap (λ b. (is_within t x || have_token xs t) && b) none ∙ and_false (is_within t x || have_token xs t) ∙ sym (ap (λ b. have_token xs t && b) none ∙ and_false (have_token xs t))
    by false without = ap (λ b. (b || have_token xs t) && have_token (y ∷ ys) t) without

skip_other : (x : TokenRange) (xs : List TokenRange) (y : TokenRange) (ys : List TokenRange) (t : ℤ) → IsRangeList (x ∷ xs) → ends_by y.right x.left ≡ true
    → (have_token (x ∷ xs) t && have_token (y ∷ ys) t) ≡ (have_token (x ∷ xs) t && have_token ys t)
skip_other x xs y ys t list ends = by (is_within t y) refl
  where
    by : (b : Bool) → is_within t y ≡ b → (have_token (x ∷ xs) t && (is_within t y || have_token ys t)) ≡ (have_token (x ∷ xs) t && have_token ys t)
    by true within =
        let none = none_of_range y x xs t list ends within in
        ap (λ b. b && (is_within t y || have_token ys t)) none ∙ sym (ap (λ b. b && have_token ys t) none)
    by false without = ap (λ b. have_token (x ∷ xs) t && (b || have_token ys t)) without

-- ---- one pass over both lists, with a place in each

list_drop : (k : ℕ) (ranges : List TokenRange) → IsRangeList ranges → IsRangeList (drop k ranges)
list_drop zero ranges list = list
list_drop (suc k) [] list = list
list_drop (suc k) (r ∷ ranges) list = list_drop k ranges (list_tail r ranges list)

module _ (one other : List TokenRange) where
  -- the tokens in common are those that both lists have in common from these places on
  abbrev pub ShareFrom : ℕ → ℕ → Type 0
  ShareFrom i j = (t : ℤ) → (have_token one t && have_token other t) ≡ (have_token (drop i one) t && have_token (drop j other) t)

  module _ (i j : ℕ) (x y : TokenRange) (one_in : i < length one) (other_in : j < length other) (one_at : x ≡ get_or one i x) (other_at : y ≡ get_or other j y) where
    one_is : drop i one ≡ x ∷ drop (i + 1) one
    one_is = drop_more one i x one_in ∙ ap (λ (r : TokenRange). r ∷ drop (i + 1) one) (sym one_at)

    other_is : drop j other ≡ y ∷ drop (j + 1) other
    other_is = drop_more other j y other_in ∙ ap (λ (r : TokenRange). r ∷ drop (j + 1) other) (sym other_at)

    pub advance_one : IsRangeList other → ends_by x.right y.left ≡ true → ShareFrom i j → ShareFrom (i + 1) j
    advance_one list ends shared t =
        shared t
        ∙ (λ k. have_token (one_is k) t && have_token (other_is k) t)
        ∙ skip_one x (drop (i + 1) one) y (drop (j + 1) other) t (subst IsRangeList other_is (list_drop j other list)) ends
        ∙ sym (λ k. have_token (drop (i + 1) one) t && have_token (other_is k) t)

    pub advance_other : IsRangeList one → ends_by y.right x.left ≡ true → ShareFrom i j → ShareFrom i (j + 1)
    advance_other list ends shared t =
        shared t
        ∙ (λ k. have_token (one_is k) t && have_token (other_is k) t)
        ∙ skip_other x (drop (i + 1) one) y (drop (j + 1) other) t (subst IsRangeList one_is (list_drop i one list)) ends
        ∙ sym (λ k. have_token (one_is k) t && have_token (drop (j + 1) other) t)

  -- then no row is in both
  none_found : (rows : List TokenRange) → ((t : ℤ) → (have_token one t && have_token other t) ≡ false) → find (is_common one other) rows ≡ None
  none_found [] none = refl
  none_found (row ∷ rows) none = ap (λ b. if b then Some row else find (is_common one other) rows) (none (last_token row.right)) ∙ none_found rows none

  pub apart_end : (cuts : List ℤ) → ((t : ℤ) → (have_token one t && have_token other t) ≡ false) → None ≡ first_common_end one other cuts
  apart_end cuts none = sym (ap (option_map (λ (row : TokenRange). row.right)) (none_found (rows_between cuts) none))
