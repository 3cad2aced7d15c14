-- The placement of the one group of all nodes is what a walk round the ring takes.
use Rattle.std.proofs.Common.{◌≡◌, ℕ, ◌≤◌, Bool, true, false, not, ◌&&◌, ◌||◌, nat_eq, nat_lt, ℤ, List, [], ◌∷◌, ◌++◌, take, drop, refl, sym, ap, ◌∙◌}
use Rattle.std.proofs.Math.Bool.{or-false}
use Rattle.std.proofs.lemmas.Bool.{false≢true, or_left, or_right}
use Rattle.std.specs.Cmp.{nat_eq_equiv}
use Rattle.std.specs.Ordering.{nat_cmp}
use Rattle.std.specs.Set.{distinct_count}
use Rattle.cluster_terms.proofs.lists.DistinctCounts.{is_member-alike, is_member-push}
use Rattle.cluster_terms.specs.Ascending.{ascending}
use Rattle.cluster_terms.specs.Group.{nodes_of, is_chosen_rack, place}
use Rattle.cluster_terms.specs.Replication.{whole_group}
use Rattle.cluster_terms.specs.declared.token.Pair.{Pair}
use Rattle.cluster_terms.proofs.placement.GroupLemmas.{has, or_elim}
use Rattle.cluster_terms.proofs.placement.PlacementLemmas.{has-permuted, nodes_of-append, placed_by}
use Rattle.token_ring.proofs.PlaceLemmas.{finds, finds_at, replica_on_walk, walk_permuted}
use Rattle.token_ring.proofs.RingLemmas.{walk_from}
use Rattle.token_ring.specs.Ring.{IsRing, IsFirstAt}
use Rattle.simple_strategy.proofs.SimpleCounts.{chosen_where}
use Rattle.simple_strategy.proofs.SimpleWalkLemmas.{takes, takes_at, has-walked, taken_after-append}
use Rattle.simple_strategy.specs.SimpleWalk.{taken_after}

module _ (rf : ℕ) (some : 1 ≤ rf) where
  -- a node of a ring that isn't met yet is chosen where fewer than rf are met before it
  chosen_in : (ns ahead : List ℕ) (v : ℕ) → ((q : ℕ) → has ahead q ≡ true → has ns q ≡ true) → has ahead v ≡ false → has ns v ≡ true
      → is_chosen_rack (whole_group rf) ns ahead [] ≡ nat_lt (distinct_count nat_eq ahead) rf
  chosen_in [] ahead v within out there = absurd (false≢true there)
  chosen_in (n ∷ ns) ahead v within out there = chosen_where rf n ns some ahead v within out there

  module _ (ns : List ℕ) where
    found_at : (ahead : List ℕ) (n v : ℕ) → ((q : ℕ) → has ahead q ≡ true → has ns q ≡ true) → has ns n ≡ true → finds_at (whole_group rf) ns ahead n v ≡ takes_at rf ahead n v
    found_at ahead n v within there = by (nat_eq v n) (has ahead v) refl refl
      where
        by : (same met : Bool) → nat_eq v n ≡ same → has ahead v ≡ met
            → (same && (not met && is_chosen_rack (whole_group rf) ns ahead [])) ≡ (same && (not met && nat_lt (distinct_count nat_eq ahead) rf))
        by false met e m = refl
        by true true e m = refl
        by true false e m = chosen_in ns ahead v within m (is_member-alike nat_eq_equiv ns v n e ∙ there)

    -- the rule finds what is taken, node by node
    found : (ahead rest : List ℕ) (v : ℕ) → ((q : ℕ) → has ahead q ≡ true → has ns q ≡ true) → ((q : ℕ) → has rest q ≡ true → has ns q ≡ true)
        → finds (whole_group rf) ns ahead rest v ≡ takes rf ahead rest v
    found ahead [] v within all = refl
    found ahead (n ∷ rest) v within all =
        (λ i. found_at ahead n v within there i || found (ahead ++ n ∷ []) rest v more (λ q h. all q (or_right (nat_eq q n) (has rest q) h)) i)
      where
        there : has ns n ≡ true
        there = all n (or_left (nat_eq n n) (has rest n) (nat_eq_equiv.refl n))

        more : (q : ℕ) → has (ahead ++ n ∷ []) q ≡ true → has ns q ≡ true
        more q h =
            or_elim (has ahead q) (nat_eq q n) (sym (is_member-push nat_eq_equiv ahead n q) ∙ h) (within q) (λ e. is_member-alike nat_eq_equiv ns q n e ∙ there)

-- the walk from the first token on, round the ring, takes the placement
pub placed_by_walk : (ps : List Pair) (x : ℤ) (i : ℕ) → IsRing ps → IsFirstAt ps x i → (rf : ℕ) → 1 ≤ rf
    → place (whole_group rf ∷ []) x ps ≡ ascending nat_cmp (taken_after rf [] (nodes_of (drop i ps ++ take i ps)))
placed_by_walk ps x i ring first rf some =
    let round = nodes_of (walk_from i ps) in
    let within : (q : ℕ) → has round q ≡ true → has (nodes_of ps) q ≡ true =
    λ q h. sym (has-permuted (walk_from i ps) ps (walk_permuted ps x i ring first) q) ∙ h in
    placed_by x ps (whole_group rf ∷ []) (taken_after rf [] round)
    (λ v. has-walked rf round v ∙ sym (found rf some (nodes_of ps) [] round v (λ q h. absurd (false≢true h)) within)
    ∙ sym (replica_on_walk ps x i ring first (whole_group rf) v) ∙ sym (or-false _))

-- the same where the pairs from the first token on are walked along, and then those in front of them
pub placed_in_parts : (ps : List Pair) (x : ℤ) (i : ℕ) → IsRing ps → IsFirstAt ps x i → (rf : ℕ) → 1 ≤ rf
    → place (whole_group rf ∷ []) x ps ≡ ascending nat_cmp (taken_after rf (taken_after rf [] (nodes_of (drop i ps))) (nodes_of (take i ps)))
placed_in_parts ps x i ring first rf some =
    placed_by_walk ps x i ring first rf some
    ∙ ap (ascending nat_cmp)
    (ap (taken_after rf []) (nodes_of-append (drop i ps) (take i ps)) ∙ taken_after-append rf [] (nodes_of (drop i ps)) (nodes_of (take i ps)))
