-- Sets of nodes with a node more, and with a node less.
use Rattle.std.proofs.Common.{◌≡◌, ◌≢◌, ℕ, ◌+◌, ◌≤◌, Bool, true, false, not, ◌&&◌, ◌||◌, List, [], ◌∷◌, length, nat_eq, refl, sym, ap, ◌∙◌, arith}
use Rattle.std.proofs.lemmas.Bool.{and_parts, false≢true, true≢false, or_left, or_right}
use Rattle.std.proofs.lemmas.Bool.Decides.{Decides-eqb, nat_tests}
use Rattle.std.proofs.lemmas.Map.Keys.{sorted_from_strictly_increasing}
use Rattle.std.proofs.lemmas.Map.Made.{length-le_from_is_member}
use Rattle.std.specs.Cmp.{nat_eq_equiv}
use Rattle.std.specs.List.{AllByRecursion, IsDistinct}
use Rattle.std.specs.Ordering.{match_ordering, nat_cmp}
use Rattle.std.specs.declared.cmp.Ordering.{Ordering}
use Rattle.std.specs.declared.cmp.Ordering.TheVariants.{Less, Equal, Greater}
use Rattle.cluster_terms.proofs.lists.AscendingNumbers.{member-put_all_numbers, put_all_increases}
use Rattle.cluster_terms.proofs.quorums.QuorumLemmas.{AreAmong, ascend_distinct}
use Rattle.cluster_terms.specs.Ascending.{put}
use Rattle.node_sets.proofs.SetLemmas.{has-without, without_increases}
use Rattle.node_sets.specs.NodeSets.{IsNodeSet, has_node, without}

or_none : (x : Bool) → (x || false) ≡ x
or_none true = refl
or_none false = refl

pub has-put : (n : ℕ) (S : List ℕ) (v : ℕ) → has_node (put nat_cmp n S) v ≡ (nat_eq v n || has_node S v)
has-put n S v = member-put_all_numbers (n ∷ []) S v ∙ ap (λ b. b || has_node S v) (or_none (nat_eq v n))

pub has-less : (n : ℕ) (S : List ℕ) (v : ℕ) → has_node (without S (n ∷ [])) v ≡ (has_node S v && not (nat_eq v n))
has-less n S v = has-without S (n ∷ []) v ∙ ap (λ b. has_node S v && not b) (or_none (nat_eq v n))

pub put_increases : (n : ℕ) (S : List ℕ) → IsNodeSet S → IsNodeSet (put nat_cmp n S)
put_increases n S up = put_all_increases (n ∷ []) S up

pub less_increases : (n : ℕ) (S : List ℕ) → IsNodeSet S → IsNodeSet (without S (n ∷ []))
less_increases n S up = without_increases S (n ∷ []) up

pub set_distinct : (S : List ℕ) → IsNodeSet S → IsDistinct nat_eq S
set_distinct S up = ascend_distinct S (sorted_from_strictly_increasing S up)

-- a set whose nodes are all in a list is no longer than the list
pub fewer : (S T : List ℕ) → IsNodeSet S → AreAmong S T → length S ≤ length T
fewer S T up among = length-le_from_is_member nat_eq_equiv S T (set_distinct S up) among

pub put_length : (n : ℕ) (S : List ℕ) → length (put nat_cmp n S) ≤ length S + 1
put_length n [] = omega arith
put_length n (m ∷ S) = by (nat_cmp n m) (put_length n S)
  where
    by : (r : Ordering) → length (put nat_cmp n S) ≤ length S + 1 → length (match_ordering r (n ∷ (m ∷ S)) (n ∷ S) (m ∷ put nat_cmp n S)) ≤ length (m ∷ S) + 1
    by Less rest = omega arith
    by Equal rest = omega arith
    by Greater rest = omega arith

pub put_some : (n : ℕ) (S : List ℕ) → 1 ≤ length (put nat_cmp n S)
put_some n [] = omega arith
put_some n (m ∷ S) = by (nat_cmp n m)
  where
    by : (r : Ordering) → 1 ≤ length (match_ordering r (n ∷ (m ∷ S)) (n ∷ S) (m ∷ put nat_cmp n S))
    by Less = omega arith
    by Equal = omega arith
    by Greater = omega arith

pub less_length : (n : ℕ) (S : List ℕ) → IsNodeSet S → length S ≤ length (without S (n ∷ [])) + 1
less_length n S up = let most = fewer S (n ∷ without S (n ∷ [])) up among in omega arith
  where
    either : (a b c : Bool) → a ≡ true → c ≡ (a && not b) → (b || c) ≡ true
    either a true c here is = refl
    either true false c here is = is
    either false false c here is = absurd (false≢true here)

    among : AreAmong S (n ∷ without S (n ∷ []))
    among v here = either (has_node S v) (nat_eq v n) (has_node (without S (n ∷ [])) v) here (has-less n S v)

pub put_among : (n : ℕ) (S : List ℕ) → AreAmong S (put nat_cmp n S)
put_among n S v here = has-put n S v ∙ or_right (nat_eq v n) (has_node S v) here

pub less_among : (n : ℕ) (S : List ℕ) → AreAmong (without S (n ∷ [])) S
less_among n S v here = (and_parts (has_node S v) (not (nat_eq v n)) (sym (has-less n S v) ∙ here)).0

-- a set without a node is no longer, and the node isn't its only one
pub less_bounds : (n : ℕ) (S : List ℕ) → IsNodeSet S → 1 ≤ length S → length S ≢ 1 → length S ≤ 32 → (1 ≤ length (without S (n ∷ []))) × (length (without S (n ∷ [])) ≤ 32)
less_bounds n S up some more few =
    let least = less_length n S up in
    let most = fewer (without S (n ∷ [])) S (less_increases n S up) (less_among n S) in
    (omega arith, omega arith)

pub same_node : (n : ℕ) → nat_eq n n ≡ true
same_node n = (Decides-eqb n n).1 refl

pub other_node : (n m : ℕ) → nat_eq n m ≡ false → nat_eq m n ≡ false
other_node n m e = grind (arith, nat_tests)

-- what holds of each node of a list
pub all_from : (P : ℕ → Type 0) (ns : List ℕ) → ((v : ℕ) → has_node ns v ≡ true → P v) → AllByRecursion P ns
all_from P [] each = tt
all_from P (n ∷ ns) each =
    (each n (or_left (nat_eq n n) (has_node ns n) (same_node n)), all_from P ns (λ v there. each v (or_right (nat_eq v n) (has_node ns v) there)))

-- a node of a list isn't a node that the list doesn't have
pub apart : (v n : ℕ) (S : List ℕ) → has_node S v ≡ true → has_node S n ≡ false → nat_eq v n ≡ false
apart v n S here none = by (nat_eq v n) refl
  where
    by : (b : Bool) → nat_eq v n ≡ b → nat_eq v n ≡ false
    by true e = absurd (true≢false (sym here ∙ ap (has_node S) ((Decides-eqb v n).0 e) ∙ none))
    by false e = e
