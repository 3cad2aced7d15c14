-- The nodes of a list: 1 to 16 that ascend.
use Rattle.std.proofs.Common.{◌≡◌, ℕ, ◌+◌, ◌≤◌, ◌&&◌, true, IsTrue, List, [], ◌∷◌, drop, length, nat_le, nat_lt, refl, arith, length-drop}
use Rattle.std.proofs.lemmas.Bool.{and_parts}
use Rattle.std.proofs.lemmas.Bool.Decides.{nat_tests}
use Rattle.std.proofs.lemmas.Cmp.{nat_cmp_total}
use Rattle.std.proofs.lemmas.Map.Keys.{IsStrictlyIncreasing-from_sorted}
use Rattle.std.specs.List.Sorted.{IsStrictlySortedBy}
use Rattle.std.specs.Ordering.{nat_cmp}
use Rattle.std.specs.declared.cmp.Ordering.TheVariants.{Less}
use Rattle.cluster_terms.proofs.lists.AscendingLemmas.{below_sorted}
use Rattle.cluster_terms.proofs.lists.AscendingNumbers.{ascending_same_numbers}
use Rattle.cluster_terms.specs.Ascending.{ascending}
use Rattle.node_sets.specs.NodeSets.{IsNodeSet}
use Rattle.cms_members.proofs.MajorityLemmas.{all_meet}
use Rattle.cms_members.proofs.RouteLemmas.{route_arrives, route_never_fewer}
use Rattle.cms_members.proofs.ShortestLemmas.{route_shortest}
use Rattle.cms_members.specs.Route.{route_of}
use Rattle.cms_members.specs.Service.{service_of}
use Rattle.tcm_session.specs.Request.{are_nodes, nodes_ascend}
use Rattle.tcm_session.specs.files.MemberRoute.{IsSafeRoute}

-- one node or none ascends
one_ascends : (ns : List ℕ) → length ns ≤ 1 → nodes_ascend ns ≡ true
one_ascends [] few = refl
one_ascends (n ∷ []) few = refl
one_ascends (n ∷ m ∷ ns) few = absurd (omega arith)

pub ascend-end : (ns : List ℕ) (i : ℕ) → length ns ≤ i + 1 → nodes_ascend (drop i ns) ≡ true
ascend-end ns i past = one_ascends (drop i ns) (omega (arith, length-drop i ns))

below_is_less : (n m : ℕ) → nat_lt n m ≡ true → nat_cmp n m ≡ Less
below_is_less n m is = grind (arith, nat_tests)

nodes_sorted : (ns : List ℕ) → nodes_ascend ns ≡ true → IsStrictlySortedBy nat_cmp ns
unfolding IsStrictlySortedBy
nodes_sorted [] up = tt
nodes_sorted (n ∷ []) up = (tt, tt)
nodes_sorted (n ∷ (m ∷ ns)) up =
    let parts = and_parts (nat_lt n m) (nodes_ascend (m ∷ ns)) up in
    let rest = nodes_sorted (m ∷ ns) parts.1 in
    (below_sorted nat_cmp nat_cmp_total n m ns (below_is_less n m parts.0) rest, rest)

-- there are 1 to 16
pub listed_count : (ns : List ℕ) → IsTrue (are_nodes ns) → (1 ≤ length ns) × (length ns ≤ 16)
listed_count ns are =
    let some = and_parts (nat_le 1 (length ns)) (nat_le (length ns) 16 && nodes_ascend ns) are in
    let few = (and_parts (nat_le (length ns) 16) (nodes_ascend ns) some.1).0 in
    let one = some.0 in
    (grind (arith, nat_tests), grind (arith, nat_tests))

-- they are a set
pub listed_nodes : (ns : List ℕ) → IsTrue (are_nodes ns) → IsNodeSet ns
listed_nodes ns are =
    let some = and_parts (nat_le 1 (length ns)) (nat_le (length ns) 16 && nodes_ascend ns) are in
    IsStrictlyIncreasing-from_sorted ns (nodes_sorted ns (and_parts (nat_le (length ns) 16) (nodes_ascend ns) some.1).1)

pub listed_set : (ns : List ℕ) → IsTrue (are_nodes ns) → ascending nat_cmp ns ≡ ns
listed_set ns are = ascending_same_numbers ns (listed_nodes ns are)

-- the route from one to another is safe
pub listed_route : (from to : List ℕ) → IsTrue (are_nodes from) → IsTrue (are_nodes to) → IsSafeRoute from to
listed_route from to from_are to_are =
    let from_up = listed_nodes from from_are in
    let to_up = listed_nodes to to_are in
    let from_count = listed_count from from_are in
    let to_count = listed_count to to_are in
    record {
      arrives = route_arrives from to from_up to_up from_count.0 from_count.1 to_count.0 to_count.1;
      meet = all_meet (service_of from) (route_of from to) from_up;
      never_fewer = route_never_fewer from to from_up to_up from_count.0 from_count.1 to_count.0 to_count.1;
      shortest = route_shortest from to from_up to_up;
    }
