-- The counting rule of the one group of all nodes: a node is chosen at its first token where fewer than rf others are
-- met before it.
use Rattle.std.proofs.Common.{◌≡◌, ℕ, ◌+◌, ◌-◌, ◌<◌, ◌≤◌, min, Bool, true, false, not, ◌&&◌, ◌||◌, nat_eq, nat_lt, List, [], ◌∷◌, filter, filter_map, is_some, refl, ap, ◌∙◌, arith}
use Rattle.std.proofs.lemmas.Bool.{false≢true}
use Rattle.std.proofs.lemmas.Bool.Decides.{nat_tests}
use Rattle.std.specs.Cmp.{nat_eq_equiv}
use Rattle.std.specs.Set.{is_member, distinct_count}
use Rattle.std.specs.Str.{bytes_eq}
use Rattle.cluster_terms.proofs.lists.DistinctCounts.{distinct_count-less}
use Rattle.cluster_terms.specs.Group.{Group, node_count, rack_count, wanted, spare, is_chosen_rack}
use Rattle.cluster_terms.specs.Replication.{whole_group}

module _ (rf : ℕ) where
  abbrev group : Group
  group = whole_group rf

  -- all nodes are of the group, and their rack is one
  all_pass : (ns : List ℕ) → filter (λ n. is_some (group.rack_of n)) ns ≡ ns
  all_pass [] = refl
  all_pass (n ∷ ns) = ap (λ l. n ∷ l) (all_pass ns)

  pub nodes_are : (ns : List ℕ) → node_count group ns ≡ distinct_count nat_eq ns
  nodes_are ns = ap (distinct_count nat_eq) (all_pass ns)

  one_rack : (n : ℕ) (ns : List ℕ) → rack_count group (n ∷ ns) ≡ 1
  one_rack n [] = refl
  one_rack n (m ∷ ns) = one_rack m ns

  -- the rule, in its numbers: how many are wanted and spare, and how many nodes and racks are ahead
  abbrev chosen_by : ℕ → ℕ → ℕ → ℕ → Bool → Bool
  chosen_by w s d p there = nat_lt (min (p + s) d) w && (not there || nat_lt (d - p) s)

  by_numbers : (ns ahead rack : List ℕ) → is_chosen_rack group ns ahead rack
      ≡ chosen_by (wanted group ns) (spare group ns) (node_count group ahead) (rack_count group ahead) (is_member bytes_eq (filter_map group.rack_of ahead) rack)
  unfolding is_chosen_rack
  by_numbers ns ahead rack = refl

  first_number : (n : ℕ) → 1 ≤ rf → 0 < n → chosen_by (min rf n) (rf - min rf 1) 0 0 false ≡ nat_lt 0 rf
  first_number n some there = grind (arith, nat_tests)

  later_number : (n d : ℕ) → 1 ≤ rf → 0 < d → d < n → chosen_by (min rf n) (rf - min rf 1) d 1 true ≡ nat_lt d rf
  later_number n d some met less = grind (arith, nat_tests)

  some_ahead : (m : ℕ) (ahead : List ℕ) → 0 < distinct_count nat_eq (m ∷ ahead)
  some_ahead m ahead =
      distinct_count-less nat_eq_equiv [] (m ∷ ahead) m (λ q h. absurd (false≢true h)) refl (ap (λ b. b || is_member nat_eq ahead m) (nat_eq_equiv.refl m))

  module _ (n : ℕ) (ns : List ℕ) (some : 1 ≤ rf) where
    wanted_is : wanted group (n ∷ ns) ≡ min rf (distinct_count nat_eq (n ∷ ns))
    wanted_is = ap (min rf) (nodes_are (n ∷ ns))

    spare_is : spare group (n ∷ ns) ≡ rf - min rf 1
    spare_is = ap (λ k. rf - min rf k) (one_rack n ns)

    -- the first node that is met is chosen
    chosen_first : is_chosen_rack group (n ∷ ns) [] [] ≡ nat_lt 0 rf
    chosen_first =
        by_numbers (n ∷ ns) [] [] ∙ (λ i. chosen_by (wanted_is i) (spare_is i) 0 0 false)
        ∙ first_number (distinct_count nat_eq (n ∷ ns)) some (some_ahead n ns)

    -- a later one is chosen where fewer than rf are met before it
    chosen_later : (m : ℕ) (ahead : List ℕ) → distinct_count nat_eq (m ∷ ahead) < distinct_count nat_eq (n ∷ ns)
        → is_chosen_rack group (n ∷ ns) (m ∷ ahead) [] ≡ nat_lt (distinct_count nat_eq (m ∷ ahead)) rf
    chosen_later m ahead less =
        by_numbers (n ∷ ns) (m ∷ ahead) []
        ∙ (λ i. chosen_by (wanted_is i) (spare_is i) (nodes_are (m ∷ ahead) i) (one_rack m ahead i) true)
        ∙ later_number (distinct_count nat_eq (n ∷ ns)) (distinct_count nat_eq (m ∷ ahead)) some (some_ahead m ahead) less

    -- a node of the ring that isn't met yet is chosen where fewer than rf are met before it
    pub chosen_where : (ahead : List ℕ) (v : ℕ) → ((q : ℕ) → is_member nat_eq ahead q ≡ true → is_member nat_eq (n ∷ ns) q ≡ true)
        → is_member nat_eq ahead v ≡ false → is_member nat_eq (n ∷ ns) v ≡ true
        → is_chosen_rack group (n ∷ ns) ahead [] ≡ nat_lt (distinct_count nat_eq ahead) rf
    chosen_where [] v within out there = chosen_first
    chosen_where (m ∷ ahead) v within out there = chosen_later m ahead (distinct_count-less nat_eq_equiv (m ∷ ahead) (n ∷ ns) v within out there)
