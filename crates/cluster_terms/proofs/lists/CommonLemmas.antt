-- Quorums that meet have a node in common.
use Rattle.std.proofs.Common.{◌≡◌, ℕ, ◌+◌, ◌≤◌, Bool, true, false, ◌||◌, nat_eq, nat_lt, List, [], ◌∷◌, ◌++◌, length, refl, sym, ◌∙◌, arith, length-append}
use Rattle.std.proofs.lemmas.Bool.{false≢true, or_left, or_right, or_parts}
use Rattle.std.proofs.lemmas.Bool.Decides.{nat_tests}
use Rattle.std.proofs.lemmas.List.Folds.{list_any-append}
use Rattle.std.proofs.lemmas.Map.Made.{distinct_count-from_IsDistinct, length-le_from_is_member}
use Rattle.std.specs.Cmp.{nat_eq_equiv}
use Rattle.std.specs.List.{AllByRecursion, IsDistinct, list_any}
use Rattle.std.specs.Set.{distinct_count}
use Rattle.cluster_terms.proofs.lists.DistinctCounts.{distinct_count-within, distinct_cons}
use Rattle.cluster_terms.proofs.placement.GroupLemmas.{has, or_elim}
use Rattle.cluster_terms.specs.Quorum.{AreSome, Meet, Sets, have_common, read_need, write_need}

-- ---- nodes that have none in common

none_among : (n : ℕ) (ms : List ℕ) → AllByRecursion (λ m. nat_eq n m ≡ false) ms → has ms n ≡ false
none_among n [] apart = refl
none_among n (m ∷ ms) apart = (λ i. apart.0 i || none_among n ms apart.1 i)

-- they are different nodes
all_different : (ns ms : List ℕ) → IsDistinct nat_eq ns → IsDistinct nat_eq ms → list_any (has ns) ms ≡ false → IsDistinct nat_eq (ms ++ ns)
unfolding IsDistinct
all_different ns [] one other none = one
all_different ns (m ∷ ms) one other none =
    let parts = or_parts (has ns m) (list_any (has ns) ms) none in
    distinct_cons nat_eq_equiv m (ms ++ ns) (all_different ns ms one other.1 parts.1)
    (list_any-append (nat_eq m) ms ns ∙ (λ i. none_among m ms other.0 i || parts.0 i))

-- ---- nodes of two lists

module _ (a b : ℕ) (ns ms xs ys : List ℕ) (one : AreSome a ns xs) (other : AreSome b ms ys) where
  -- together no more than the nodes of both
  together : list_any (has xs) ys ≡ false → a + b ≤ distinct_count nat_eq (ns ++ ms)
  together none =
      let count = distinct_count-from_IsDistinct nat_eq_equiv (ys ++ xs) (all_different xs ys one.distinct other.distinct none) in
      let within = distinct_count-within nat_eq_equiv (ys ++ xs) (ns ++ ms)
      (λ v there. list_any-append (nat_eq v) ns ms
      ∙ or_elim (has ys v) (has xs v) (sym (list_any-append (nat_eq v) ys xs) ∙ there)
      (λ here. or_right (has ns v) (has ms v) (other.among v here)) (λ here. or_left (has ns v) (has ms v) (one.among v here))) in
      omega (arith, length-append ys xs, one.enough, other.enough)

  pub some_common : have_common a ns b ms ≡ true → list_any (has xs) ys ≡ true
  some_common meet = by (list_any (has xs) ys) refl
    where
      few_of : (k : ℕ) (vs ws : List ℕ) → AreSome k vs ws → k ≤ length vs
      few_of k vs ws some = (let most = length-le_from_is_member nat_eq_equiv ws vs some.distinct some.among in omega (arith, some.enough))

      below : (k m : ℕ) → k ≤ m → nat_lt m k ≡ false
      below k m le = grind (arith, nat_tests)

      by : (c : Bool) → list_any (has xs) ys ≡ c → list_any (has xs) ys ≡ true
      by true e = e
      by false e =
          absurd (false≢true (sym (λ i. below a (length ns) (few_of a ns xs one) i
          || (below b (length ms) (few_of b ms ys other) i || below (a + b) (distinct_count nat_eq (ns ++ ms)) (together e) i)) ∙ meet))

-- a write quorum and a read quorum of sets that meet
pub quorums_have_common : (one other : Sets) (written read : List ℕ) → Meet one other → AreSome (write_need one) one.writes written → AreSome (read_need other) other.reads read → list_any (has written) read ≡ true
quorums_have_common one other written read meet w r = some_common (write_need one) (read_need other) one.writes other.reads written read w r meet.there
