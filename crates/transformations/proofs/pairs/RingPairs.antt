-- Rings into which the pairs of a node are put, and the tokens of their pairs.
use Rattle.std.proofs.Common.{◌≡◌, ℕ, ◌≤◌, Bool, true, false, ◌==◌, ℤ, int_lt, List, [], ◌∷◌, ◌++◌, map, filter, length, refl, sym, ap, ◌∙◌, subst, arith, append_assoc, length-append}
use Rattle.std.proofs.lemmas.Bool.{and_parts}
use Rattle.std.proofs.lemmas.Cmp.{int_cmp_total, int_eq_equiv, on_total}
use Rattle.std.proofs.lemmas.List.{length-map, map-append}
use Rattle.std.proofs.lemmas.List.Sorted.{IsPermutation-append_comm, IsPermutation-append_left, IsPermutation-map, length_permutation, list_any-IsPermutation}
use Rattle.std.proofs.lemmas.Map.Keys.{IsDistinct-IsPermutation, IsDistinct-from_sorted}
use Rattle.std.proofs.lemmas.Map.Made.{distinct_count-from_IsDistinct}
use Rattle.std.specs.Cmp.{IsTotalOrder}
use Rattle.std.specs.List.{AllByRecursion, IsDistinct}
use Rattle.std.specs.List.Sorted.{IsPermutation, IsStrictlySortedBy}
use Rattle.std.specs.Ordering.{int_cmp, int_eq}
use Rattle.std.specs.declared.cmp.Ordering.TheVariants.{Less}
use Rattle.std.specs.Set.{distinct_count, is_member}
use Rattle.cluster_terms.proofs.lists.AscendingLemmas.{All-put_all, below_sorted, put_all_sorted}
use Rattle.cluster_terms.proofs.lists.DistinctCounts.{distinct_count-within}
use Rattle.cluster_terms.specs.Ascending.{put_all}
use Rattle.cluster_terms.specs.Pair.{tokens_of}
use Rattle.cluster_terms.specs.declared.token.Pair.{Pair}
use Rattle.transformations.proofs.commands.AcceptedLemmas.{AreNew, same_id}
use Rattle.transformations.proofs.lists.ListLemmas.{IsPart, all_false, all_map, all_weaker, distinct_append, distinct_by, filter_none, length-filter_put_all, part_all, part_all_of, part_any, part_append, part_distinct, part_filter, part_front, part_length, part_map, put_all_permutes}
use Rattle.transformations.specs.History.{ascend}
use Rattle.transformations.specs.Orders.{by_token}
use Rattle.transformations.specs.Refusals.{is_taken, most_tokens, tokens_with}
use Rattle.transformations.specs.Rings.{widest}
use Rattle.transformations.specs.States.{owns_tokens}
use Rattle.transformations.specs.Movements.{pairs_of}
use Rattle.transformations.specs.Valid.{IsOwned, is_standing}
use Rattle.transformations.specs.declared.image.Image.{Image}

pub by_token_total : IsTotalOrder by_token
by_token_total = on_total (λ (p : Pair). p.token) int_cmp_total

-- ---- pairs with few tokens, none of them twice

pub record AreFew (pairs : List Pair) : Type 0 where
  pub fresh : IsDistinct int_eq (tokens_of pairs)
  pub few : length pairs ≤ most_tokens

pub few_moved : (pairs others : List Pair) → IsPermutation pairs others → AreFew pairs → AreFew others
few_moved pairs others moved h = record {
  fresh = IsDistinct-IsPermutation int_eq int_eq_equiv.symm (tokens_of pairs) (tokens_of others) (IsPermutation-map (λ (p : Pair). p.token) pairs others moved) h.fresh;
  few = (let same = length_permutation pairs others moved in omega (arith, h.few));
}

pub few_part : {pairs others : List Pair} → IsPart pairs others → AreFew others → AreFew pairs
few_part part h = record {
  fresh = part_distinct int_eq (part_map (λ (p : Pair). p.token) part) h.fresh;
  few = (let less = part_length part in omega (arith, h.few));
}

-- the same tokens with other nodes
pub few_alike : (pairs others : List Pair) → tokens_of pairs ≡ tokens_of others → AreFew others → AreFew pairs
few_alike pairs others same h = record {
  fresh = rw same h.fresh;
  few = omega (arith, h.few, ap length same, length-map pairs (λ (p : Pair). p.token), length-map others (λ (p : Pair). p.token));
}

-- pairs put into a ring stand there beside its own
pub put_permuted : (pairs ring more : List Pair) → AreFew (pairs ++ (ring ++ more)) → IsPermutation (pairs ++ ring) (put_all by_token pairs ring)
put_permuted pairs ring more h =
    let whole : IsDistinct int_eq (tokens_of ((pairs ++ ring) ++ more)) = rw (append_assoc pairs ring more) h.fresh in
    let front : IsDistinct int_eq (tokens_of (pairs ++ ring)) = part_distinct int_eq (part_map (λ (p : Pair). p.token) (part_front (pairs ++ ring) more)) whole in
    put_all_permutes by_token pairs ring (distinct_by int_eq (λ (p : Pair). p.token) (pairs ++ ring) front)

pub put_into_ring : (pairs ring more : List Pair) → AreFew (pairs ++ (ring ++ more)) → IsPermutation (pairs ++ (ring ++ more)) (put_all by_token pairs ring ++ more)
put_into_ring pairs ring more h =
    rw (← append_assoc pairs ring more) (IsPermutation-append_left more (pairs ++ ring) (put_all by_token pairs ring) (put_permuted pairs ring more h))

-- ---- the pairs that a command brings

pub tokens_sorted : (tokens : List ℤ) → ascend tokens ≡ true → IsStrictlySortedBy int_cmp tokens
unfolding IsStrictlySortedBy
tokens_sorted [] h = tt
tokens_sorted (t ∷ []) h = (tt, tt)
tokens_sorted (t ∷ (u ∷ tokens)) h =
    let rest = tokens_sorted (u ∷ tokens) ((and_parts (int_lt t u) (ascend (u ∷ tokens)) h).1) in
    let less : int_cmp t u ≡ Less = rw ((and_parts (int_lt t u) (ascend (u ∷ tokens)) h).0) refl in
    (below_sorted int_cmp int_cmp_total t u tokens less rest, rest)

pub pairs_sorted : (n : ℕ) (tokens : List ℤ) → IsStrictlySortedBy int_cmp tokens → IsStrictlySortedBy by_token (pairs_of n tokens)
unfolding IsStrictlySortedBy
pairs_sorted n [] up = tt
pairs_sorted n (t ∷ tokens) up = (all_map (λ q. int_cmp t q.token ≡ Less) (λ u. let q : Pair = record { token = u; node = n } in q) tokens up.0, pairs_sorted n tokens up.1)

pub pairs_own : (n : ℕ) (tokens : List ℤ) → AllByRecursion (λ p. p.node ≡ n) (pairs_of n tokens)
pairs_own n [] = tt
pairs_own n (t ∷ tokens) = (refl, pairs_own n tokens)

pub tokens_of-pairs : (n : ℕ) (tokens : List ℤ) → tokens_of (pairs_of n tokens) ≡ tokens
tokens_of-pairs n [] = refl
tokens_of-pairs n (t ∷ tokens) = ap (λ l. t ∷ l) (tokens_of-pairs n tokens)

pub length-pairs : (n : ℕ) (tokens : List ℤ) → length (pairs_of n tokens) ≡ length tokens
length-pairs n tokens = length-map tokens (λ t. record { token = t; node = n })

-- tokens that are new, beside the pairs that stand already
pub new_pairs : (image : Image) (n : ℕ) (tokens : List ℤ) (ring : List Pair) → ascend tokens ≡ true → AreNew image tokens → IsPart ring (widest image) → IsDistinct int_eq (tokens_of ring) → AreFew (pairs_of n tokens ++ ring)
new_pairs image n tokens ring up new part fresh =
    let is : tokens_of (pairs_of n tokens ++ ring) ≡ tokens ++ tokens_of ring =
    map-append (λ (p : Pair). p.token) (pairs_of n tokens) ring ∙ ap (λ l. l ++ tokens_of ring) (tokens_of-pairs n tokens) in
    let own : IsDistinct int_eq tokens = IsDistinct-from_sorted int_cmp tokens (tokens_sorted tokens up) in
    let all : IsDistinct int_eq (tokens ++ tokens_of ring) =
    distinct_append int_eq tokens (tokens_of ring) own fresh
    (all_weaker (λ t. is_taken image t ≡ false) (λ t. AllByRecursion (λ u. int_eq t u ≡ false) (tokens_of ring)) untaken tokens new.untaken) in
    let count : distinct_count int_eq (tokens ++ tokens_of ring) ≡ length (tokens ++ tokens_of ring) = distinct_count-from_IsDistinct int_eq_equiv (tokens ++ tokens_of ring) all in
    let fewer : distinct_count int_eq (tokens ++ tokens_of ring) ≤ tokens_with image tokens = distinct_count-within int_eq_equiv (tokens ++ tokens_of ring) (tokens_of (widest image) ++ tokens) there in
    record {
      fresh = rw is all;
      few = omega (arith, new.few, count, fewer, length-append tokens (tokens_of ring), length-append (pairs_of n tokens) ring, length-pairs n tokens, length-map ring (λ (p : Pair). p.token));
    }
  where
    untaken : (t : ℤ) → is_taken image t ≡ false → AllByRecursion (λ u. int_eq t u ≡ false) (tokens_of ring)
    untaken t free =
        part_all_of (λ u. int_eq t u ≡ false) (part_map (λ (p : Pair). p.token) part)
        (all_map (λ u. int_eq t u ≡ false) (λ (p : Pair). p.token) (widest image)
        (all_weaker (λ (p : Pair). int_eq p.token t ≡ false) (λ (p : Pair). int_eq t p.token ≡ false) (λ p e. int_eq_equiv.symm t p.token ∙ e) (widest image)
        (all_false (λ (p : Pair). int_eq p.token t) (widest image) free)))

    there : (t : ℤ) → is_member int_eq (tokens ++ tokens_of ring) t ≡ true → is_member int_eq (tokens_of (widest image) ++ tokens) t ≡ true
    there t h =
        let whole : is_member int_eq (tokens ++ tokens_of (widest image)) t ≡ true = part_any (int_eq t) (part_append (part_all tokens) (part_map (λ (p : Pair). p.token) part)) h in
        sym (list_any-IsPermutation (int_eq t) (tokens ++ tokens_of (widest image)) (tokens_of (widest image) ++ tokens) (IsPermutation-append_comm tokens (tokens_of (widest image)))) ∙ whole

-- ---- whose pairs there are

-- pairs of a node are no other node's
pub not_others : (n m : ℕ) (pairs : List Pair) → (n == m) ≡ false → AllByRecursion (λ p. p.node ≡ n) pairs → AllByRecursion (λ p. (p.node == m) ≡ false) pairs
not_others n m pairs other = all_weaker (λ (p : Pair). p.node ≡ n) (λ (p : Pair). (p.node == m) ≡ false) (λ p is. ap (λ k. k == m) is ∙ other) pairs

-- the ring once a node has got at most 256 pairs, of which it has none
pub owned_with : (image : Image) (n : ℕ) (pairs : List Pair) → owns_tokens image n ≡ false → AllByRecursion (λ p. is_standing image.nodes p.node ≡ true) pairs
    → AllByRecursion (λ p. p.node ≡ n) pairs → length pairs ≤ 256 → IsOwned image → IsOwned (record image { tokens = put_all by_token pairs image.tokens })
owned_with image n pairs bare up own short h = record {
  ascending = put_all_sorted by_token by_token_total pairs image.tokens h.ascending;
  owners = All-put_all by_token (λ p. is_standing image.nodes p.node ≡ true) pairs image.tokens up h.owners;
  few = λ m. few m (n == m) refl;
}
  where
    kept : ℕ → List Pair → List Pair
    kept m ps = filter (λ (p : Pair). p.node == m) ps

    shorter : {X : Type 0} (p : X → Bool) (xs : List X) → length (filter p xs) ≤ length xs
    shorter p xs = part_length (part_filter p xs)

    few : (m : ℕ) (b : Bool) → (n == m) ≡ b → length (map (λ (p : Pair). p.token) (kept m (put_all by_token pairs image.tokens))) ≤ 256
    few m true e =
        let is : n ≡ m = same_id n m e in
        let none : kept m image.tokens ≡ [] = filter_none (λ (p : Pair). p.node == m) image.tokens (all_false (λ (p : Pair). p.node == m) image.tokens (subst (λ k. owns_tokens image k ≡ false) is bare)) in
        omega (arith, short, ap length none, shorter (λ (p : Pair). p.node == m) pairs, length-filter_put_all by_token (λ (p : Pair). p.node == m) pairs image.tokens, length-map (kept m (put_all by_token pairs image.tokens)) (λ (p : Pair). p.token))
    few m false e =
        let none : kept m pairs ≡ [] = filter_none (λ (p : Pair). p.node == m) pairs (not_others n m pairs e own) in
        omega (arith, h.few m, ap length none, length-map (kept m image.tokens) (λ (p : Pair). p.token), length-filter_put_all by_token (λ (p : Pair). p.node == m) pairs image.tokens, length-map (kept m (put_all by_token pairs image.tokens)) (λ (p : Pair). p.token))
