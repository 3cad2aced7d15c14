-- Lists of ranges: which tokens they have.
use Rattle.std.proofs.Common.{◌≡◌, ℕ, zero, suc, ◌<◌, ◌≤◌, nat_lt, Bool, true, false, ◌&&◌, ◌||◌, ℤ, ◌≤ℤ◌, int_lt, int_le, List, [], ◌∷◌, ◌++◌, length, get_or, Option, Some, None, refl, sym, ap, ◌∙◌, subst, ◌⊎◌, inl, inr, arith}
use Rattle.std.specs.List.{All, AllByRecursion, AllPairs}
use Rattle.std.specs.List.Sorted.{IsPartitionPoint, IsPartitionedBy}
use Rattle.std.specs.Ordering.{int_eq}
use Rattle.std.specs.Set.{is_member}
use Rattle.std.proofs.lemmas.Bool.{and_parts, false≢true, cases_lt}
use Rattle.std.proofs.lemmas.Bool.Decides.{nat_tests, Decides-int_eq}
use Rattle.std.proofs.lemmas.Int.{ints}
use Rattle.std.proofs.lemmas.List.Elements.{All-nil, All-head, All-tail, All-cons}
use Rattle.std.proofs.lemmas.List.Kept.{AllPairs-cons}
use Rattle.cluster_terms.specs.Arc.{IsToken, greatest_token, in_arc}
use Rattle.cluster_terms.specs.Row.{last_token, is_past, is_within}
use Rattle.cluster_terms.specs.declared.row.TokenRange.{TokenRange}
use Rattle.cluster_terms.specs.declared.token.RightEnd.{RightEnd}
use Rattle.cluster_terms.specs.declared.token.RightEnd.TheVariants.{At, Max}
use Rattle.token_ring.specs.TokenRanges.{have_token, ends_before, IsRange, IsRangeList, is_cut_left, is_cut_right, is_cut_out, AreCutOut}

-- ---- lists

module _ {X : Type 0} where
  pub from_all : (P : X → Type 0) (xs : List X) → All P xs → AllByRecursion P xs
  from_all P [] all = tt
  from_all P (x ∷ xs) all = (All-head P x xs all, from_all P xs (All-tail P x xs all))

  pub to_all : (P : X → Type 0) (xs : List X) → AllByRecursion P xs → All P xs
  to_all P [] all = All-nil P
  to_all P (x ∷ xs) all = All-cons P x xs all.0 (to_all P xs all.1)

  -- what holds of all items holds of one among them
  pub all_at : (P : X → Type 0) (pre : List X) (x : X) (suf : List X) → AllByRecursion P (pre ++ x ∷ suf) → P x
  all_at P [] x suf all = all.0
  all_at P (y ∷ pre) x suf all = all_at P pre x suf all.1

  -- the first item stands so to the others, and these to each other
  pub pairs_head : (R : X → X → Type 0) (x : X) (xs : List X) → AllPairs R (x ∷ xs) → AllByRecursion (R x) xs
  pairs_head R x xs all = from_all (R x) xs (λ k d in_k. all 0 (suc k) d (omega arith) (omega arith))

  pub pairs_tail : (R : X → X → Type 0) (x : X) (xs : List X) → AllPairs R (x ∷ xs) → AllPairs R xs
  pairs_tail R x xs all i j d lt in_j = all (suc i) (suc j) d (omega arith) (omega arith)

  pub pairs_cons : (R : X → X → Type 0) (x : X) (xs : List X) → AllByRecursion (R x) xs → AllPairs R xs → AllPairs R (x ∷ xs)
  pairs_cons R x xs first rest = AllPairs-cons R x xs (to_all (R x) xs first) rest

  pub pairs_nil : (R : X → X → Type 0) → AllPairs R []
  pairs_nil R i j d lt in_j = absurd (omega arith)

-- ---- a list of ranges

pub list_tail : (range : TokenRange) (ranges : List TokenRange) → IsRangeList (range ∷ ranges) → IsRangeList ranges
list_tail range ranges list = record {
  each = list.each.1;
  apart = pairs_tail (λ r s. ends_before r.right s.left ≡ true) range ranges list.apart;
}

-- a first range before all others
pub list_cons : (range : TokenRange) (ranges : List TokenRange) → IsRange range → AllByRecursion (λ s. ends_before range.right s.left ≡ true) ranges → IsRangeList ranges → IsRangeList (range ∷ ranges)
list_cons range ranges is first list = record {
  each = (is, list.each);
  apart = pairs_cons (λ r s. ends_before r.right s.left ≡ true) range ranges first list.apart;
}

pub list_nil : IsRangeList []
list_nil = record { each = tt; apart = pairs_nil (λ r s. ends_before r.right s.left ≡ true) }

-- a range past all others at the end
pub list_push : (ranges : List TokenRange) (range : TokenRange) → IsRangeList ranges → IsRange range → AllByRecursion (λ r. ends_before r.right range.left ≡ true) ranges → IsRangeList (ranges ++ range ∷ [])
list_push [] range list is past = list_cons range [] is tt list_nil
list_push (r ∷ ranges) range list is past =
    list_cons r (ranges ++ range ∷ []) list.each.0 (more ranges (pairs_head (λ r s. ends_before r.right s.left ≡ true) r ranges list.apart)) (list_push ranges range (list_tail r ranges list) is past.1)
  where
    more : (rest : List TokenRange) → AllByRecursion (λ s. ends_before r.right s.left ≡ true) rest → AllByRecursion (λ s. ends_before r.right s.left ≡ true) (rest ++ range ∷ [])
    more [] all = (past.0, tt)
    more (s ∷ rest) all = (all.0, more rest all.1)

-- ---- the tokens of a list

-- a token up to a right end is not past the left end of a later range
not_past : (right : RightEnd) (left : Option ℤ) (t : ℤ) → ends_before right left ≡ true → int_lt (last_token right) t ≡ false → is_past left t ≡ false
not_past (At right) (Some left) t apart upto = grind (arith, ints)
not_past (At right) None t apart upto = absurd (false≢true apart)
not_past Max left t apart upto = absurd (false≢true apart)

pub none_later : (right : RightEnd) (ranges : List TokenRange) (t : ℤ) → AllByRecursion (λ s. ends_before right s.left ≡ true) ranges → int_lt (last_token right) t ≡ false → have_token ranges t ≡ false
none_later right [] t apart upto = refl
none_later right (s ∷ ranges) t apart upto =
    let here : is_past s.left t ≡ false = not_past right s.left t apart.0 upto in
    (λ i. (here i && int_le t (last_token s.right)) || none_later right ranges t apart.1 upto i)

-- where k ranges end before a token, it is in some range exactly if it is past the left end of the k-th one
pub found_at : (ranges : List TokenRange) (t : ℤ) (k : ℕ) (d : TokenRange) → IsRangeList ranges
    → IsPartitionPoint (λ r. int_lt (last_token r.right) t ≡ true) (λ r. int_lt (last_token r.right) t ≡ false) ranges k
    → have_token ranges t ≡ (nat_lt k (length ranges) && is_past (get_or ranges k d).left t)
found_at [] t k d list split = grind (arith, nat_tests)
found_at (r ∷ ranges) t zero d list split =
    let upto : int_lt (last_token r.right) t ≡ false = split.1 0 d (omega arith) (omega arith) in
    let rest = none_later r.right ranges t (pairs_head (λ r s. ends_before r.right s.left ≡ true) r ranges list.apart) upto in
    here (is_past r.left t) (last_token r.right) (have_token ranges t) upto rest
  where
    here : (past : Bool) (w : ℤ) (later : Bool) → int_lt w t ≡ false → later ≡ false → ((past && int_le t w) || later) ≡ (nat_lt 0 (suc (length ranges)) && past)
    here past w later upto none = grind (arith, ints, nat_tests)
found_at (r ∷ ranges) t (suc k) d list split =
    let low : int_lt (last_token r.right) t ≡ true = split.0 0 d (omega arith) (omega arith) in
    let rest = found_at ranges t k d (list_tail r ranges list) (λ j e zero lt. split.0 (suc j) e (omega arith) (omega arith), λ j e le lt. split.1 (suc j) e (omega arith) (omega arith)) in
    here (is_past r.left t) (last_token r.right) (have_token ranges t) (is_past (get_or ranges k d).left t) low rest
  where
    here : (past : Bool) (w : ℤ) (later next : Bool) → int_lt w t ≡ true → later ≡ (nat_lt k (length ranges) && next) → ((past && int_le t w) || later) ≡ (nat_lt (suc k) (suc (length ranges)) && next)
    here past w later next low is = grind (arith, ints, nat_tests)

-- the answer of a search, at a range and past all ranges
pub search_within : (ranges : List TokenRange) (t : ℤ) (k : ℕ) (d : TokenRange) (past : Bool) → IsRangeList ranges
    → IsPartitionPoint (λ r. int_lt (last_token r.right) t ≡ true) (λ r. int_lt (last_token r.right) t ≡ false) ranges k
    → k < length ranges → d ≡ get_or ranges k d → past ≡ is_past d.left t → past ≡ have_token ranges t
search_within ranges t k d past list split within at is =
    let all = found_at ranges t k d list split in
    let here : is_past d.left t ≡ is_past (get_or ranges k d).left t = ap (λ (r : TokenRange). is_past r.left t) at in
    let inside : nat_lt k (length ranges) ≡ true = grind (arith, nat_tests) in
    is ∙ here ∙ sym (all ∙ ap (λ b. b && is_past (get_or ranges k d).left t) inside)

pub search_past : (ranges : List TokenRange) (t : ℤ) (k n : ℕ) → IsRangeList ranges
    → IsPartitionPoint (λ r. int_lt (last_token r.right) t ≡ true) (λ r. int_lt (last_token r.right) t ≡ false) ranges k
    → n ≡ length ranges → n ≤ k → nat_lt k n ≡ have_token ranges t
search_past ranges t k n list split is past =
    let all = found_at ranges t k (record { left = None; right = Max }) list split in
    let outside : nat_lt k (length ranges) ≡ false = grind (arith, nat_tests) in
    let outer : nat_lt k n ≡ false = grind (arith, nat_tests) in
    outer ∙ sym (all ∙ ap (λ b. b && is_past (get_or ranges k (record { left = None; right = Max })).left t) outside)

-- a range before another one that ends before a token ends before it too
low_before : (right : RightEnd) (left : Option ℤ) (w t : ℤ) → ends_before right left ≡ true → (is_past left w && int_le w w) ≡ true → int_lt w t ≡ true → int_lt (last_token right) t ≡ true
low_before (At right) (Some left) w t apart some low = grind (arith, ints)
low_before (At right) None w t apart some low = absurd (false≢true apart)
low_before Max left w t apart some low = absurd (false≢true apart)

-- the ranges that end before a token stand before the others
pub ends_ascend : (ranges : List TokenRange) (t : ℤ) → IsRangeList ranges → IsPartitionedBy (λ r. int_lt (last_token r.right) t) ranges
ends_ascend ranges t list i j d le in_j low = by (cases_lt i j)
  where
    by : (i < j) ⊎ (j ≤ i) → int_lt (last_token (get_or ranges i d).right) t ≡ true
    by (inl before) =
        let is : IsRange (get_or ranges j d) = to_all IsRange ranges list.each j d in_j in
        low_before (get_or ranges i d).right (get_or ranges j d).left (last_token (get_or ranges j d).right) t (list.apart i j d before in_j) is.some low
    by (inr after) = let same : i ≡ j = omega arith in rw same low

-- ---- tokens between which no cut lies

-- what holds of each cut holds of a member
pub member_has : (P : ℤ → Type 0) (cuts : List ℤ) (t : ℤ) → is_member int_eq cuts t ≡ true → AllByRecursion P cuts → P t
member_has P [] t member all = absurd (false≢true member)
member_has P (cut ∷ cuts) t member all = by (int_eq t cut) refl member (λ later. member_has P cuts t later all.1)
  where
    by : (b : Bool) → int_eq t cut ≡ b → (b || is_member int_eq cuts t) ≡ true → (is_member int_eq cuts t ≡ true → P t) → P t
    by true same h later = let is : t ≡ cut = (Decides-int_eq t cut).0 same in subst P (sym is) all.0
    by false other h later = later h

-- two tokens between which no cut lies are past the same cuts, and up to the same cuts
same_left : (cuts : List ℤ) (x w : ℤ) (left : Option ℤ) → x ≤ℤ w → AllByRecursion (λ t. in_arc x w t ≡ false) cuts → is_cut_left cuts left ≡ true → is_past left x ≡ is_past left w
same_left cuts x w None le clear out = refl
same_left cuts x w (Some left) le clear out =
    let none : in_arc x w left ≡ false = member_has (λ t. in_arc x w t ≡ false) cuts left out clear in
    grind (arith, ints, none)

same_right : (cuts : List ℤ) (x w : ℤ) (right : RightEnd) → x ≤ℤ w → IsToken w → AllByRecursion (λ t. in_arc x w t ≡ false) cuts → is_cut_right cuts right ≡ true → int_le x (last_token right) ≡ int_le w (last_token right)
same_right cuts x w (At right) le token clear out =
    let none : in_arc x w right ≡ false = member_has (λ t. in_arc x w t ≡ false) cuts right out clear in
    grind (arith, ints, none)
same_right cuts x w Max le token clear out = let top : w ≤ℤ greatest_token = token.1 in grind (arith, ints)

same_range : (cuts : List ℤ) (x w : ℤ) (range : TokenRange) → x ≤ℤ w → IsToken w → AllByRecursion (λ t. in_arc x w t ≡ false) cuts → is_cut_out cuts range ≡ true → is_within x range ≡ is_within w range
same_range cuts x w range le token clear out =
    let parts = and_parts (is_cut_left cuts range.left) (is_cut_right cuts range.right) out in
    let left = same_left cuts x w range.left le clear parts.0 in
    let right = same_right cuts x w range.right le token clear parts.1 in
    λ i. left i && right i

-- ranges whose bounds are cuts have both or none of two tokens between which no cut lies
pub same_tokens : (cuts : List ℤ) (x w : ℤ) (ranges : List TokenRange) → x ≤ℤ w → IsToken w → AllByRecursion (λ t. in_arc x w t ≡ false) cuts → AreCutOut cuts ranges → have_token ranges x ≡ have_token ranges w
same_tokens cuts x w [] le token clear out = refl
same_tokens cuts x w (range ∷ ranges) le token clear out =
    λ i. same_range cuts x w range le token clear out.0 i || same_tokens cuts x w ranges le token clear out.1 i
