-- Searches in pairs whose tokens ascend.
use Rattle.std.proofs.Common.{◌≡◌, ℕ, ◌+◌, ◌<◌, ◌≤◌, ◌↔◌, Bool, true, false, true≢false, IsTrue, ℤ, ◌<ℤ◌, ◌≤ℤ◌, int_lt, pos, ◌==◌, ◌&&◌, ◌||◌, List, [], ◌∷◌, length, get_or, refl, sym, ap, ◌∙◌, ◌⊎◌, inl, inr, arith}
use Rattle.std.proofs.lemmas.Bool.{cases_lt}
use Rattle.std.proofs.lemmas.Int.{ints}
use Rattle.std.proofs.lemmas.List.{get_or_default}
use Rattle.std.proofs.lemmas.List.Folds.{list_any_at, list_any_none}
use Rattle.std.proofs.lemmas.Map.Keys.{Less-from_sorted, sorted_from_all_adjacent}
use Rattle.std.specs.List.{IsAllAdjacentAnswer, list_any}
use Rattle.std.specs.List.Sorted.{IsPartitionPoint, IsPartitionedBy, IsStrictlySortedBy}
use Rattle.std.specs.Ordering.{int_eq}
use Rattle.cluster_terms.specs.Pair.{has_pair, same_pair, without_pairs}
use Rattle.cluster_terms.specs.declared.token.Pair.{Pair}
use Rattle.transformations.proofs.pairs.RingPairs.{by_token_total}
use Rattle.transformations.specs.Orders.{by_token}

-- any pair, as a default
some_pair : Pair
some_pair = record { token = pos 0; node = 0 }

-- whether each token is below the next one tells whether the tokens ascend
pub ascend-from_answer : (ps : List Pair) (r : Bool) → IsAllAdjacentAnswer (λ p q b. b ≡ int_lt p.token q.token) ps r → IsTrue r ↔ IsStrictlySortedBy by_token ps
ascend-from_answer ps true answer =
    (λ _. sorted_from_all_adjacent by_token_total ps some_pair (λ k in_k. (let less = answer k some_pair in_k in grind (arith, ints, less))), λ _. refl)
ascend-from_answer ps false answer =
    (λ yes. absurd (true≢false (sym yes)), λ up. (let less = Less-from_sorted by_token ps answer.0 (answer.0 + 1) some_pair up (omega arith) answer.1 in let other = answer.2 some_pair in grind (arith, ints, less, other)))

-- the tokens at two positions are in the order of the positions
token-le : (ps : List Pair) → IsStrictlySortedBy by_token ps → (i j : ℕ) (d e : Pair) → i ≤ j → j < length ps → (get_or ps i d).token ≤ℤ (get_or ps j e).token
token-le ps up i j d e le in_j = by (cases_lt i j)
  where
    in_i : i < length ps
    in_i = omega arith

    by : (i < j) ⊎ (j ≤ i) → (get_or ps i d).token ≤ℤ (get_or ps j e).token
    by (inl lt) = rw (get_or_default ps i d e in_i) (let l = Less-from_sorted by_token ps i j e up lt in_j in grind (arith, ints, l))
    by (inr ge) =
        let same : i ≡ j = omega arith in
        rw (get_or_default ps i d e in_i, same) (omega (arith, ints))

-- the pairs below t stand before the others
pub below_first : (ps : List Pair) (t : ℤ) → IsStrictlySortedBy by_token ps → IsPartitionedBy (λ p. int_lt p.token t) ps
below_first ps t up i j d le in_j low = let l = token-le ps up i j d d le in_j in grind (arith, ints, low, l)

pub split_from_tests : (ps : List Pair) (t : ℤ) (n : ℕ) → IsPartitionPoint (λ p. int_lt p.token t ≡ true) (λ p. int_lt p.token t ≡ false) ps n → IsPartitionPoint (λ p. p.token <ℤ t) (λ p. t ≤ℤ p.token) ps n
split_from_tests ps t n split =
    (λ k d zero lt. let low = split.0 k d zero lt in grind (arith, ints, low), λ k d le lt. let high = split.1 k d le lt in grind (arith, ints, high))

-- a pair has token t exactly where the first one that is not below t has it
pub has_first : (ps : List Pair) (t : ℤ) (n : ℕ) → IsStrictlySortedBy by_token ps → IsPartitionPoint (λ p. p.token <ℤ t) (λ p. t ≤ℤ p.token) ps n → (d : Pair) → n < length ps → int_eq (get_or ps n d).token t ≡ list_any (λ p. int_eq p.token t) ps
has_first ps t n up split d in_n = by (int_eq (get_or ps n d).token t) refl
  where
    by : (b : Bool) → int_eq (get_or ps n d).token t ≡ b → b ≡ list_any (λ p. int_eq p.token t) ps
    by true e = sym (list_any_at (λ (p : Pair). int_eq p.token t) ps n d in_n e)
    by false e = sym (list_any_none (λ (p : Pair). int_eq p.token t) ps apart)
      where
        apart : (k : ℕ) (f : Pair) → k < length ps → int_eq (get_or ps k f).token t ≡ false
        apart k f in_k = at (cases_lt k n)
          where
            at : (k < n) ⊎ (n ≤ k) → int_eq (get_or ps k f).token t ≡ false
            at (inl low) = let l = split.0 k f (omega arith) low in grind (arith, ints, l)
            at (inr high) = let l = token-le ps up n k d f high in_k in let m = split.1 n d (omega arith) in_n in grind (arith, ints, l, m, e)

pub has_none : (ps : List Pair) (t : ℤ) (n : ℕ) → IsPartitionPoint (λ p. p.token <ℤ t) (λ p. t ≤ℤ p.token) ps n → length ps ≤ n → false ≡ list_any (λ p. int_eq p.token t) ps
has_none ps t n split all = sym (list_any_none (λ (p : Pair). int_eq p.token t) ps (λ k f in_k. let l = split.0 k f (omega arith) (omega arith) in grind (arith, ints, l)))

-- ---- whole pairs

has_pair-any : (p : Pair) (ps : List Pair) → has_pair ps p ≡ list_any (same_pair p) ps
has_pair-any p [] = refl
has_pair-any p (q ∷ ps) = ap (λ b. same_pair p q || b) (has_pair-any p ps)

-- pairs with different tokens are different
below_differs : (p q : Pair) → q.token <ℤ p.token → same_pair p q ≡ false
below_differs p q less = let other : int_eq p.token q.token ≡ false = grind (arith, ints, less) in ap (λ b. b && (p.node == q.node)) other

above_differs : (p q : Pair) → p.token <ℤ q.token → same_pair p q ≡ false
above_differs p q less = let other : int_eq p.token q.token ≡ false = grind (arith, ints, less) in ap (λ b. b && (p.node == q.node)) other

-- a pair is there exactly where the first one whose token is not below its own is the same
pub has_first_pair : (ps : List Pair) (p : Pair) (n : ℕ) → IsStrictlySortedBy by_token ps → IsPartitionPoint (λ q. q.token <ℤ p.token) (λ q. p.token ≤ℤ q.token) ps n → (d : Pair) → n < length ps → same_pair p (get_or ps n d) ≡ has_pair ps p
has_first_pair ps p n up split d in_n = by (same_pair p (get_or ps n d)) refl ∙ sym (has_pair-any p ps)
  where
    by : (b : Bool) → same_pair p (get_or ps n d) ≡ b → b ≡ list_any (same_pair p) ps
    by true e = sym (list_any_at (same_pair p) ps n d in_n e)
    by false e = sym (list_any_none (same_pair p) ps apart)
      where
        apart : (k : ℕ) (f : Pair) → k < length ps → same_pair p (get_or ps k f) ≡ false
        apart k f in_k = at (cases_lt k n)
          where
            after : (n < k) ⊎ (k ≤ n) → n ≤ k → same_pair p (get_or ps k f) ≡ false
            after (inl past) high =
                let l = Less-from_sorted by_token ps n k f up past in_k in
                let m = split.1 n f (omega arith) in_n in
                above_differs p (get_or ps k f) (grind (arith, ints, l, m))
            after (inr le) high =
                let same : k ≡ n = omega arith in
                rw same (ap (same_pair p) (get_or_default ps n f d in_n) ∙ e)

            at : (k < n) ⊎ (n ≤ k) → same_pair p (get_or ps k f) ≡ false
            at (inl low) = below_differs p (get_or ps k f) (split.0 k f (omega arith) low)
            at (inr high) = after (cases_lt n k) high

pub has_no_pair : (ps : List Pair) (p : Pair) (n : ℕ) → IsPartitionPoint (λ q. q.token <ℤ p.token) (λ q. p.token ≤ℤ q.token) ps n → length ps ≤ n → false ≡ has_pair ps p
has_no_pair ps p n split all =
    sym (has_pair-any p ps ∙ list_any_none (same_pair p) ps (λ k f in_k. below_differs p (get_or ps k f) (split.0 k f (omega arith) (omega arith))))

-- nothing is taken out where there is nothing to take out
pub without_no_pairs : (ps gone : List Pair) → length gone ≡ 0 → without_pairs ps gone ≡ ps
without_no_pairs ps (p ∷ gone) some = absurd (omega arith)
without_no_pairs [] [] none = refl
without_no_pairs (p ∷ ps) [] none = ap (λ qs. p ∷ qs) (without_no_pairs ps [] none)
