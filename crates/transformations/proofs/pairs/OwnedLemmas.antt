-- The pairs of a node in a ring, and a ring without them.
use Rattle.std.proofs.Common.{◌≡◌, ℕ, ◌≤◌, Bool, true, false, not, ◌&&◌, ◌||◌, ◌==◌, List, ◌++◌, filter, length, nat_le, refl, sym, ap, ◌∙◌, arith}
use Rattle.std.proofs.lemmas.Bool.Decides.{nat_tests}
use Rattle.std.proofs.lemmas.Cmp.{int_eq_equiv, nat_eq_equiv}
use Rattle.std.proofs.lemmas.List.Sorted.{IsPermutation-filter_both, list_any-IsPermutation}
use Rattle.std.proofs.lemmas.List.Folds.{list_any-append}
use Rattle.std.proofs.lemmas.Map.Made.{is_member-filter}
use Rattle.std.specs.Cmp.{IsEquivalence}
use Rattle.std.specs.List.{AllByRecursion, IsDistinct, list_any}
use Rattle.std.specs.List.Sorted.{IsPermutation}
use Rattle.std.specs.Ordering.{int_eq}
use Rattle.cluster_terms.proofs.rows.PairLemmas.{same_pair-refl, same_pair-tells}
use Rattle.cluster_terms.specs.Ascending.{put_all}
use Rattle.cluster_terms.specs.Pair.{has_pair, same_pair, tokens_of, without_pairs}
use Rattle.cluster_terms.specs.declared.token.Pair.{Pair}
use Rattle.transformations.proofs.lists.FilterLemmas.{any_as_filter, any_counted, filter_alike, filter_put_all, filter_twice}
use Rattle.transformations.proofs.lists.ListLemmas.{all_members, distinct_by}
use Rattle.transformations.specs.Orders.{by_token}
use Rattle.transformations.specs.Rings.{fixed_ring, incoming, outgoing, widest}
use Rattle.transformations.specs.Movements.{owned}
use Rattle.transformations.specs.declared.image.Image.{Image}

-- ---- pairs that pass a test

pair_equiv : IsEquivalence same_pair
pair_equiv = record {
  refl = same_pair-refl;
  symm = λ p q. λ i. int_eq_equiv.symm p.token q.token i && nat_eq_equiv.symm p.node q.node i;
  congr = λ p q r same. ap (λ t. same_pair t r) (same_pair-tells p q same);
}

pub has_filter : (test : Pair → Bool) (ring : List Pair) (p : Pair) → has_pair (filter test ring) p ≡ (has_pair ring p && test p)
has_filter test ring p = is_member-filter pair_equiv test p (λ q same. ap test (same_pair-tells p q same)) ring

-- the same pairs are among a list and its permutation
pub has_permuted : (ps qs : List Pair) → IsPermutation ps qs → (p : Pair) → has_pair ps p ≡ has_pair qs p
has_permuted ps qs moved p = list_any-IsPermutation (same_pair p) ps qs moved

pub has_append : (ps qs : List Pair) (p : Pair) → (has_pair ps p || has_pair qs p) ≡ has_pair (ps ++ qs) p
has_append ps qs p = sym (list_any-append (same_pair p) ps qs)

-- the pairs that stand whatever becomes of the movements, and all that may come to stand
pub has_fixed : (image : Image) (p : Pair) → has_pair (fixed_ring image) p ≡ (has_pair image.tokens p && not (has_pair (outgoing image.sequences) p))
has_fixed image p = has_filter (λ q. not (has_pair (outgoing image.sequences) q)) image.tokens p

pub has_widest : (image : Image) (p : Pair) → has_pair (widest image) p ≡ (has_pair image.tokens p || has_pair (incoming image.sequences) p)
has_widest image p = sym (has_append image.tokens (incoming image.sequences) p)

-- ---- a ring without the pairs of a node

abbrev pub without : List Pair → ℕ → List Pair
without ring n = filter (λ p. not (p.node == n)) ring

-- to take out the pairs of a node is to leave those of the others
pub taken_out : (ring : List Pair) (n : ℕ) → without_pairs ring (owned ring n) ≡ without ring n
taken_out ring n =
    filter_alike (λ p. not (has_pair (owned ring n) p)) (λ p. not (p.node == n)) ring
    (all_members same_pair same_pair-refl (λ p. not (has_pair (owned ring n) p) ≡ not (p.node == n)) ring
    (λ p there. ap not (has_filter (λ q. q.node == n) ring p ∙ ap (λ b. b && (p.node == n)) there)))

-- both are all
pub ring_split : (ring : List Pair) (n : ℕ) → IsPermutation ring (owned ring n ++ without ring n)
ring_split ring n = IsPermutation-filter_both (λ (p : Pair). p.node == n) (λ (p : Pair). not (p.node == n)) (λ p. refl) ring

-- the pairs of another node stay
pub owned_without : (ring : List Pair) (n m : ℕ) → (m == n) ≡ false → owned (without ring n) m ≡ owned ring m
owned_without ring n m other = filter_twice (λ (p : Pair). p.node == m) (λ (p : Pair). not (p.node == n)) ring (λ p is. apart p.node is)
  where
    apart : (k : ℕ) → (k == m) ≡ true → not (k == n) ≡ true
    apart k is = grind (arith, nat_tests)

-- pairs of other nodes are put in
pub owned_put : (pairs ring : List Pair) (m : ℕ) → AllByRecursion (λ p. (p.node == m) ≡ false) pairs → IsDistinct int_eq (tokens_of (pairs ++ ring)) → owned (put_all by_token pairs ring) m ≡ owned ring m
owned_put pairs ring m other fresh = filter_put_all by_token (λ (p : Pair). p.node == m) pairs ring other (distinct_by int_eq (λ (p : Pair). p.token) (pairs ++ ring) fresh)

-- ---- whether a node has pairs

pub joined_as : (ring ring' : List Pair) (n : ℕ) → owned ring n ≡ owned ring' n → list_any (λ p. p.node == n) ring ≡ list_any (λ p. p.node == n) ring'
joined_as ring ring' n same = any_as_filter (λ (p : Pair). p.node == n) ring ring' same

pub joined_owned : (ring : List Pair) (n : ℕ) → 1 ≤ length (owned ring n) → list_any (λ p. p.node == n) ring ≡ true
joined_owned ring n some = any_counted (λ (p : Pair). p.node == n) ring ∙ by (length (owned ring n)) some
  where
    by : (k : ℕ) → 1 ≤ k → nat_le 1 k ≡ true
    by k some = grind (arith, nat_tests)

pub owned_joined : (ring : List Pair) (n : ℕ) → list_any (λ p. p.node == n) ring ≡ true → 1 ≤ length (owned ring n)
owned_joined ring n some = by (length (owned ring n)) (sym (any_counted (λ (p : Pair). p.node == n) ring) ∙ some)
  where
    by : (k : ℕ) → nat_le 1 k ≡ true → 1 ≤ k
    by k some = grind (arith, nat_tests)
