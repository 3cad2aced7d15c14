-- Movements in which no node takes part twice.
use Rattle.std.proofs.Common.{◌≡◌, ℕ, Bool, true, false, true≢false, not, ◌&&◌, ◌||◌, ◌==◌, List, [], ◌∷◌, map, find, Some, refl, sym, ap, ◌∙◌, arith}
use Rattle.std.proofs.Math.Bool.{and_comm}
use Rattle.std.proofs.lemmas.Bool.{or_right as or_true_right, not-true}
use Rattle.std.proofs.lemmas.Bool.Decides.{nat_tests}
use Rattle.std.proofs.lemmas.List.Folds.{list_any-append}
use Rattle.std.proofs.lemmas.Map.Keys.{IsDistinct-IsPermutation, IsDistinct-cons, IsDistinct-head, IsDistinct-tail}
use Rattle.std.specs.List.{AllByRecursion, AllPairs, IsDistinct, list_any}
use Rattle.cluster_terms.proofs.rows.PairLemmas.{any_from_pair}
use Rattle.cluster_terms.specs.Ascending.{put}
use Rattle.cluster_terms.specs.Pair.{has_pair, same_pair}
use Rattle.cluster_terms.specs.declared.token.Pair.{Pair}
use Rattle.transformations.proofs.commands.AcceptedLemmas.{IsFree}
use Rattle.transformations.proofs.ranges.MovementsApart.{distinct_alike, distinct_from_pairs, distinct_map, found_apart, pairs_from_distinct}
use Rattle.transformations.proofs.lists.ListLemmas.{all_each, all_filter, all_weaker, part_distinct, part_filter}
use Rattle.transformations.proofs.movements.MovementLemmas.{phase_node, phase_out_pairs, sequences_put}
use Rattle.transformations.specs.Orders.{by_node}
use Rattle.transformations.specs.Rings.{outgoing}
use Rattle.transformations.specs.Movements.{at_phase, others, takes_part}
use Rattle.transformations.specs.Valid.{HaveNoNodeTwice}
use Rattle.transformations.specs.declared.image.Image.{Image}
use Rattle.transformations.specs.declared.sequence.Phase.{Phase}
use Rattle.transformations.specs.declared.sequence.SeqRow.{SeqRow}

-- ---- node by node

abbrev pub both_take : ℕ → SeqRow → SeqRow → Bool
both_take n s q = takes_part n s && takes_part n q

abbrev pub AreOnce : List SeqRow → Type 0
AreOnce sequences = (n : ℕ) → IsDistinct (both_take n) sequences

pub once_by_node : (sequences : List SeqRow) → AllPairs HaveNoNodeTwice sequences → AreOnce sequences
once_by_node sequences once = λ n. distinct_from_pairs (both_take n) sequences (λ i j d before within. once i j d before within n)

pub once_of : (sequences : List SeqRow) → AreOnce sequences → AllPairs HaveNoNodeTwice sequences
once_of sequences once = λ i j d before within n. pairs_from_distinct (both_take n) sequences (once n) i j d before within

-- ---- movements less, more, and in another phase

pub once_others : (sequences : List SeqRow) (n : ℕ) → AllPairs HaveNoNodeTwice sequences → AllPairs HaveNoNodeTwice (others sequences n)
once_others sequences n once = once_of (others sequences n) (λ m. part_distinct (both_take m) (part_filter (λ (q : SeqRow). not (q.node == n)) sequences) (once_by_node sequences once m))

both_flips : (n : ℕ) (s q : SeqRow) → both_take n s q ≡ both_take n q s
both_flips n s q = and_comm (takes_part n s) (takes_part n q)

both_none : (a b : Bool) → (a ≡ true → b ≡ false) → (a && b) ≡ false
both_none true b none = none refl
both_none false b none = refl

-- a node that takes part in the movement takes part in none of the others
pub others_free : (sequences : List SeqRow) (s : SeqRow) → find (λ (q : SeqRow). q.node == s.node) sequences ≡ Some s → AllPairs HaveNoNodeTwice sequences
    → (n : ℕ) → takes_part n s ≡ true → AllByRecursion (λ q. takes_part n q ≡ false) (others sequences s.node)
others_free sequences s found once n here =
    all_filter (λ (q : SeqRow). not (q.node == s.node)) (λ q. takes_part n q ≡ false) sequences
    (all_weaker (λ (q : SeqRow). (q.node == s.node) ≡ false → both_take n s q ≡ false) (λ (q : SeqRow). not (q.node == s.node) ≡ true → takes_part n q ≡ false)
    (λ q apart other. alone (takes_part n q) (apart (not-true (q.node == s.node) other))) sequences
    (found_apart (both_take n) (both_flips n) s.node sequences s found (once_by_node sequences once n)))
  where
    alone : (b : Bool) → (takes_part n s && b) ≡ false → b ≡ false
    alone b none = sym (ap (λ a. a && b) here) ∙ none

pub once_put : (image : Image) (j : SeqRow) → AllByRecursion (λ (s : SeqRow). (s.node == j.node) ≡ false) image.sequences → ((n : ℕ) → takes_part n j ≡ true → IsFree image n)
    → AllPairs HaveNoNodeTwice image.sequences → AllPairs HaveNoNodeTwice (put by_node j image.sequences)
once_put image j new free once =
    once_of (put by_node j image.sequences)
    (λ n. IsDistinct-IsPermutation (both_take n) (both_flips n) (j ∷ image.sequences) (put by_node j image.sequences) (sequences_put j image.sequences new)
    (IsDistinct-cons (both_take n) j image.sequences (by n (takes_part n j) refl) (once_by_node image.sequences once n)))
  where
    by : (n : ℕ) (b : Bool) → takes_part n j ≡ b → AllByRecursion (λ q. both_take n j q ≡ false) image.sequences
    by n true e = all_weaker (λ (q : SeqRow). takes_part n q ≡ false) (λ q. both_take n j q ≡ false) (λ q none. both_none (takes_part n j) (takes_part n q) (λ here. none)) image.sequences (free n e)
    by n false e = all_each (λ q. both_take n j q ≡ false) (λ q. ap (λ b. b && takes_part n q) e) image.sequences

module _ (phase : Phase) (m : ℕ) where
  takes_phase : (n : ℕ) (s : SeqRow) → takes_part n (at_phase phase m s) ≡ takes_part n s
  takes_phase n s = λ i. (phase_node phase m s i == n) || list_any (λ (p : Pair). p.node == n) (phase_out_pairs phase m s i)

  pub once_phase : (sequences : List SeqRow) → AllPairs HaveNoNodeTwice sequences → AllPairs HaveNoNodeTwice (map (at_phase phase m) sequences)
  once_phase sequences once =
      once_of (map (at_phase phase m) sequences)
      (λ n. distinct_map (both_take n) (at_phase phase m) sequences
      (distinct_alike (both_take n) (λ s q. both_take n (at_phase phase m s) (at_phase phase m q)) (λ s. takes_part n (at_phase phase m s) ≡ takes_part n s)
      (λ s q one other. λ i. sym one i && sym other i) sequences (all_each (λ s. takes_part n (at_phase phase m s) ≡ takes_part n s) (takes_phase n) sequences) (once_by_node sequences once n)))

-- ---- pairs of nodes that take part in no movement

-- the nodes of pairs that a movement takes out take part in it
pub out_takes : (s : SeqRow) (p : Pair) → has_pair s.out_pairs p ≡ true → takes_part p.node s ≡ true
out_takes s p there =
    or_true_right (s.node == p.node) (list_any (λ (q : Pair). q.node == p.node) s.out_pairs)
    (any_from_pair (λ (q : Pair). q.node == p.node) s.out_pairs p there (itself p.node))
  where
    itself : (n : ℕ) → (n == n) ≡ true
    itself n = grind (arith, nat_tests)

-- so no pair of another node is taken out
pub not_out : (p : Pair) (sequences : List SeqRow) → AllByRecursion (λ q. takes_part p.node q ≡ false) sequences → has_pair (outgoing sequences) p ≡ false
not_out p [] all = refl
not_out p (s ∷ sequences) all =
    list_any-append (same_pair p) s.out_pairs (outgoing sequences) ∙ (λ i. by (has_pair s.out_pairs p) refl i || not_out p sequences all.1 i)
  where
    by : (b : Bool) → has_pair s.out_pairs p ≡ b → has_pair s.out_pairs p ≡ false
    by false e = e
    by true e = absurd (true≢false (sym (out_takes s p e) ∙ all.0))

-- a node that takes part in the first movement takes part in no later one
pub first_alone : (s : SeqRow) (sequences : List SeqRow) → AreOnce (s ∷ sequences) → (n : ℕ) → takes_part n s ≡ true → AllByRecursion (λ q. takes_part n q ≡ false) sequences
first_alone s sequences once n here =
    all_weaker (λ (q : SeqRow). both_take n s q ≡ false) (λ (q : SeqRow). takes_part n q ≡ false) (λ q none. sym (ap (λ a. a && takes_part n q) here) ∙ none) sequences
    (IsDistinct-head (both_take n) s sequences (once n))

pub later_once : (s : SeqRow) (sequences : List SeqRow) → AreOnce (s ∷ sequences) → AreOnce sequences
later_once s sequences once = λ n. IsDistinct-tail (both_take n) s sequences (once n)
