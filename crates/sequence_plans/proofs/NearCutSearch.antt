-- How the cuts near ranges are found: by search, one range after another.
use Rattle.std.proofs.Common.{◌≡◌, ℕ, zero, suc, ◌+◌, ◌<◌, ◌≤◌, Bool, true, false, true≢false, cond, ◌||◌, ℤ, ◌<ℤ◌, ◌≤ℤ◌, int_lt, int_le, List, [], ◌∷◌, ◌++◌, length, get_or, take, drop, filter, Option, Some, None, refl, sym, ap, ◌∙◌, subst, ◌⊎◌, inl, inr, arith}
use Rattle.std.proofs.lemmas.Bool.{and_parts, and_right, cases_lt, false≢true}
use Rattle.std.proofs.lemmas.Int.{ints}
use Rattle.std.proofs.lemmas.List.{get_or_default, take_more}
use Rattle.std.proofs.lemmas.List.Folds.{list_any-append}
use Rattle.std.proofs.lemmas.List.Kept.{IsStrictlySortedBy-filter}
use Rattle.std.proofs.lemmas.Map.Keys.{sorted_head, sorted_tail}
use Rattle.std.specs.List.{AllByRecursion}
use Rattle.std.specs.List.Sorted.{IsPartitionPoint, IsPartitionedBy, IsStrictlySortedBy}
use Rattle.std.specs.Ordering.{int_cmp}
use Rattle.std.specs.declared.cmp.Ordering.TheVariants.{Less}
use Rattle.cluster_terms.specs.Row.{last_token}
use Rattle.cluster_terms.specs.declared.row.TokenRange.{TokenRange}
use Rattle.cluster_terms.specs.declared.token.RightEnd.{RightEnd}
use Rattle.cluster_terms.specs.declared.token.RightEnd.TheVariants.{At, Max}
use Rattle.token_ring.proofs.RangeLemmas.{from_all, list_tail, pairs_head, to_all}
use Rattle.token_ring.specs.TokenRanges.{IsRangeList, ends_before}
use Rattle.transformations.proofs.lists.FilterLemmas.{filter_alike}
use Rattle.transformations.proofs.lists.ListLemmas.{all_each, all_weaker, filter_none}
use Rattle.sequence_plans.proofs.BookLemmas.{all_at}
use Rattle.sequence_plans.specs.code.NearCuts.{is_from, is_near, near_cuts, touches}

-- ---- by position

-- the tokens at two positions are in the order of the positions
ascend-lt : (ts : List ℤ) → IsStrictlySortedBy int_cmp ts → (i j : ℕ) (d e : ℤ) → i < j → j < length ts → get_or ts i d <ℤ get_or ts j e
ascend-lt [] up i j d e lt in_j = absurd (omega arith)
ascend-lt (t ∷ ts) up i zero d e lt in_j = absurd (omega arith)
ascend-lt (t ∷ ts) up zero (suc j) d e lt in_j =
    let less = to_all (λ u. int_cmp t u ≡ Less) ts (sorted_head int_cmp t ts up) j e (omega arith) in grind (arith, ints, less)
ascend-lt (t ∷ ts) up (suc i) (suc j) d e lt in_j = ascend-lt ts (sorted_tail int_cmp t ts up) i j d e (omega arith) (omega arith)

ascend-le : (ts : List ℤ) → IsStrictlySortedBy int_cmp ts → (i j : ℕ) (d e : ℤ) → i ≤ j → j < length ts → get_or ts i d ≤ℤ get_or ts j e
ascend-le ts up i j d e le in_j = by (cases_lt i j)
  where
    by : (i < j) ⊎ (j ≤ i) → get_or ts i d ≤ℤ get_or ts j e
    by (inl lt) = let l = ascend-lt ts up i j d e lt in_j in omega (arith, ints, l)
    by (inr ge) =
        let same : i ≡ j = omega arith in
        let in_i : i < length ts = omega arith in
        rw (get_or_default ts i d e in_i, same) (omega (arith, ints))

-- ---- by search

-- the tokens below t stand before the others
pub below_first : (ts : List ℤ) (t : ℤ) → IsStrictlySortedBy int_cmp ts → IsPartitionedBy (λ u. int_lt u t) ts
below_first ts t up i j d le in_j low = let l = ascend-le ts up i j d d le in_j in grind (arith, ints, low, l)

-- where those that pass a test stand before the others, and after them
pub passed_first : {X : Type 0} (p : X → Bool) (xs : List X) (k : ℕ) → IsPartitionPoint (λ x. p x ≡ true) (λ x. p x ≡ false) xs k → take k xs ≡ filter p xs
passed_first p [] zero split = refl
passed_first p [] (suc k) split = refl
passed_first p (x ∷ xs) zero split = sym (filter_none p (x ∷ xs) (from_all (λ y. p y ≡ false) (x ∷ xs) (λ k d in_k. split.1 k d (omega arith) in_k)))
passed_first p (x ∷ xs) (suc k) split =
    let first : p x ≡ true = split.0 0 x (omega arith) (omega arith) in
    let rest = passed_first p xs k (λ j d zero lt. split.0 (suc j) d (omega arith) (omega arith), λ j d le lt. split.1 (suc j) d (omega arith) (omega arith)) in
    rw first (ap (λ l. x ∷ l) rest)

pub passed_last : {X : Type 0} (p : X → Bool) (xs : List X) (k : ℕ) → IsPartitionPoint (λ x. p x ≡ false) (λ x. p x ≡ true) xs k → drop k xs ≡ filter p xs
passed_last p [] zero split = refl
passed_last p [] (suc k) split = refl
passed_last p (x ∷ xs) zero split =
    let first : p x ≡ true = split.1 0 x (omega arith) (omega arith) in
    let rest = passed_last p xs zero (λ j d zero lt. absurd (omega arith), λ j d le lt. split.1 (suc j) d (omega arith) (omega arith)) in
    rw first (ap (λ l. x ∷ l) rest)
passed_last p (x ∷ xs) (suc k) split =
    let first : p x ≡ false = split.0 0 x (omega arith) (omega arith) in
    rw first (passed_last p xs k (λ j d zero lt. split.0 (suc j) d (omega arith) (omega arith), λ j d le lt. split.1 (suc j) d (omega arith) (omega arith)))

-- the cuts from a left end on
pub from_left : (cuts : List ℤ) (left : ℤ) (k : ℕ) → IsPartitionPoint (λ t. int_lt t left ≡ true) (λ t. int_lt t left ≡ false) cuts k → drop k cuts ≡ filter (is_from (Some left)) cuts
from_left cuts left k split =
    passed_last (is_from (Some left)) cuts k
    (λ j d zero lt. let low = split.0 j d zero lt in grind (arith, ints, low), λ j d le lt. let high = split.1 j d le lt in grind (arith, ints, high))

pub from_none : (cuts : List ℤ) → cuts ≡ filter (is_from None) cuts
from_none [] = refl
from_none (t ∷ cuts) = ap (λ l. t ∷ l) (from_none cuts)

-- ascending cuts up to a token stand before the others
pub upto_first : (cuts : List ℤ) (t : ℤ) → IsStrictlySortedBy int_cmp cuts → IsPartitionedBy (λ u. int_le u t) cuts
upto_first cuts t up i j d le in_j low = let l = ascend-le cuts up i j d d le in_j in grind (arith, ints, low, l)

-- ---- one range after another

pub near_none : (cuts : List ℤ) → near_cuts cuts [] ≡ []
near_none cuts = filter_none (is_near []) cuts (all_each (λ t. is_near [] t ≡ false) (λ t. refl) cuts)

-- where no cut passes p from one on that passes q, those that pass p stand before those that pass q
filter_either : (p q : ℤ → Bool) (cuts : List ℤ) → IsStrictlySortedBy int_cmp cuts → ((t u : ℤ) → t ≤ℤ u → q t ≡ true → p u ≡ false) → filter (λ t. p t || q t) cuts ≡ filter p cuts ++ filter q cuts
filter_either p q [] up apart = refl
filter_either p q (t ∷ cuts) up apart = by (p t) (q t) refl refl (filter_either p q cuts (sorted_tail int_cmp t cuts up) apart)
  where
    by : (b c : Bool) → p t ≡ b → q t ≡ c → filter (λ u. p u || q u) cuts ≡ filter p cuts ++ filter q cuts
        → cond (b || c) (t ∷ filter (λ u. p u || q u) cuts) (filter (λ u. p u || q u) cuts) ≡ cond b (t ∷ filter p cuts) (filter p cuts) ++ cond c (t ∷ filter q cuts) (filter q cuts)
    by true true e f rest = absurd (true≢false (sym e ∙ apart t t (omega (arith, ints)) f))
    by true false e f rest = ap (λ l. t ∷ l) rest
    by false true e f rest =
        let none : filter p cuts ≡ [] =
        filter_none p cuts (all_weaker (λ u. int_cmp t u ≡ Less) (λ u. p u ≡ false) (λ u less. apart t u (grind (arith, ints, less)) f) cuts (sorted_head int_cmp t cuts up)) in
        ap (λ l. t ∷ l) (rest ∙ ap (λ l. l ++ filter q cuts) none) ∙ sym (ap (λ l. l ++ t ∷ filter q cuts) none)
    by false false e f rest = rest

-- a token at the left end of a later range or past it is past the ranges before
not_upto : (right : RightEnd) (left : Option ℤ) (t u : ℤ) → ends_before right left ≡ true → is_from left t ≡ true → t ≤ℤ u → int_le u (last_token right) ≡ false
not_upto (At right) (Some left) t u apart from le = grind (arith, ints)
not_upto (At right) None t u apart from le = absurd (false≢true apart)
not_upto Max left t u apart from le = absurd (false≢true apart)

none_near : (ranges : List TokenRange) (left : Option ℤ) (t u : ℤ) → AllByRecursion (λ r. ends_before r.right left ≡ true) ranges → is_from left t ≡ true → t ≤ℤ u → is_near ranges u ≡ false
none_near [] left t u apart from le = refl
none_near (r ∷ ranges) left t u apart from le =
    neither (touches r u) (is_near ranges u) (and_right (is_from r.left u) (int_le u (last_token r.right)) (not_upto r.right left t u apart.0 from le)) (none_near ranges left t u apart.1 from le)
  where
    neither : (b c : Bool) → b ≡ false → c ≡ false → (b || c) ≡ false
    neither b c e f = grind arith

earlier : (ranges : List TokenRange) (i : ℕ) (range : TokenRange) → IsRangeList ranges → i < length ranges → range ≡ get_or ranges i range → AllByRecursion (λ r. ends_before r.right range.left ≡ true) (take i ranges)
earlier [] i range list within is = absurd (omega arith)
earlier (r ∷ ranges) zero range list within is = tt
earlier (r ∷ ranges) (suc i) range list within is = (
  all_at (λ s. ends_before r.right s.left ≡ true) ranges i range (pairs_head (λ r s. ends_before r.right s.left ≡ true) r ranges list.apart) (omega arith) is,
  earlier ranges i range (list_tail r ranges list) (omega arith) is,
)

-- the cuts near a range follow those near the ranges before it
pub near_more : (cuts : List ℤ) (ranges : List TokenRange) (i : ℕ) (range : TokenRange) → IsStrictlySortedBy int_cmp cuts → IsRangeList ranges → i < length ranges → range ≡ get_or ranges i range
    → near_cuts cuts (take (i + 1) ranges) ≡ near_cuts cuts (take i ranges) ++ filter (touches range) cuts
near_more cuts ranges i range up list within is =
    let front : List TokenRange = take i ranges in
    ap (near_cuts cuts) (take_more ranges i range within ∙ ap (λ (r : TokenRange). take i ranges ++ r ∷ []) (sym is))
    ∙ filter_alike (is_near (front ++ range ∷ [])) (λ t. is_near front t || touches range t) cuts
    (all_each (λ t. is_near (front ++ range ∷ []) t ≡ (is_near front t || touches range t)) (λ t. list_any-append (λ r. touches r t) front (range ∷ []) ∙ ap (λ b. is_near front t || b) (alone (touches range t))) cuts)
    ∙ filter_either (is_near front) (touches range) cuts up
    (λ t u le here. none_near front range.left t u (earlier ranges i range list within is) (and_parts (is_from range.left t) (int_le t (last_token range.right)) here).0 le)
  where
    alone : (b : Bool) → (b || false) ≡ b
    alone true = refl
    alone false = refl

-- the cuts near ranges ascend
pub near_ascend : (cuts : List ℤ) (ranges : List TokenRange) (near : List ℤ) → near ≡ near_cuts cuts ranges → IsStrictlySortedBy int_cmp cuts → IsStrictlySortedBy int_cmp near
near_ascend cuts ranges near is up = subst (IsStrictlySortedBy int_cmp) (sym is) (IsStrictlySortedBy-filter int_cmp (is_near ranges) cuts up)
