-- How many replicas a group has: no more than it asks for.
use Rattle.std.proofs.Common.{◌≡◌, ℕ, ◌+◌, ◌-◌, ◌<◌, ◌≤◌, min, Bool, true, false, not, ◌&&◌, ◌||◌, cond, nat_eq, nat_lt, ℤ, List, [], ◌∷◌, map, filter, filter_map, length, Option, Some, None, is_some, refl, sym, ap, ◌∙◌, arith}
use Rattle.std.proofs.lemmas.Bool.{false≢true, and_parts, or_left, or_right, not-true}
use Rattle.std.proofs.lemmas.Bool.Decides.{nat_tests}
use Rattle.std.proofs.lemmas.Cmp.{nat_list_eq_equiv}
use Rattle.std.proofs.lemmas.Int.{ints}
use Rattle.std.proofs.lemmas.List.{length-map}
use Rattle.std.proofs.lemmas.List.Kept.{IsStrictlySortedBy-filter}
use Rattle.std.proofs.lemmas.Map.Steps.{length-le_from_distinct_below}
use Rattle.std.proofs.lemmas.Map.Views.{exact_unsigned_eq}
use Rattle.std.specs.Cmp.{nat_eq_equiv}
use Rattle.std.specs.List.{AllByRecursion, IsDistinct, list_any}
use Rattle.std.specs.List.Sorted.{IsStrictlySortedBy}
use Rattle.std.specs.Ordering.{int_cmp}
use Rattle.std.specs.declared.cmp.Ordering.TheVariants.{Less}
use Rattle.cluster_terms.proofs.placement.CountLemmas.{IsWithin, has_rack-of_within, rack_count-within}
use Rattle.cluster_terms.proofs.lists.DistinctCounts.{distinct_count-less}
use Rattle.cluster_terms.proofs.placement.GroupLemmas.{has, has-of, has_rack, is_chosen_by, is_chosen_rack-by, or_elim, rack_there}
use Rattle.cluster_terms.proofs.rows.PairLemmas.{ahead-within, any_from_pair, found_from_any, has-ahead, same_pair-refl}
use Rattle.cluster_terms.proofs.placement.PlacementLemmas.{any-filter, has-nodes_of}
use Rattle.cluster_terms.proofs.reach.SettledLemmas.{arc-through}
use Rattle.cluster_terms.specs.Arc.{in_arc}
use Rattle.cluster_terms.specs.Group.{Group, nodes_of, node_count, rack_count, wanted, spare, is_chosen, ahead_of, is_first, is_chosen_at, is_replica}
use Rattle.cluster_terms.specs.Pair.{has_pair, same_pair}
use Rattle.cluster_terms.specs.declared.token.Pair.{Pair}

-- ---- tokens in their order from x on

-- of two tokens one is ahead of the other
one_ahead : (x y z : ℤ) → int_cmp y z ≡ Less → (in_arc x z y || in_arc x y z) ≡ true
one_ahead x y z less = grind (arith, ints)

-- ---- replicas by their places

-- how many replicas are found ahead of a node, by how many nodes and racks are ahead of it: at each replica there are
-- more
more_found : (w s d p d' p' : ℕ) (there : Bool) → is_chosen_by w s d p there ≡ true → p ≤ p' → d < d' → (there ≡ false → p < p') → min (p + s) d < min (p' + s) d'
more_found w s d p d' p' true chosen racks nodes new =
    let last : nat_lt (d - p) s ≡ true = (and_parts (nat_lt (min (p + s) d) w) (nat_lt (d - p) s) chosen).1 in
    let further : d - p < s = grind (arith, nat_tests) in
    omega arith
more_found w s d p d' p' false chosen racks nodes new =
    let more : p < p' = new refl in
    omega arith

module _ (g : Group) (x : ℤ) (ps : List Pair) where
  abbrev ahead : Pair → List ℕ
  ahead p = nodes_of (ahead_of x p.token ps)

  -- how many replicas are found ahead of a pair
  abbrev found_ahead : Pair → ℕ
  found_ahead p = min (rack_count g (ahead p) + spare g (nodes_of ps)) (node_count g (ahead p))

  -- whether a replica is found at a pair
  abbrev pub is_taken : Pair → Bool
  is_taken p = is_chosen_at g x ps p.node p

  record IsTaken (p : Pair) : Type 0 where
    rack : List ℕ
    in_rack : g.rack_of p.node ≡ Some rack
    first : has (ahead p) p.node ≡ false
    chosen : is_chosen_by (wanted g (nodes_of ps)) (spare g (nodes_of ps)) (node_count g (ahead p)) (rack_count g (ahead p)) (has_rack g (ahead p) rack) ≡ true

  taken_there : (p : Pair) → is_taken p ≡ true → IsTaken p
  taken_there p h = by (g.rack_of p.node) refl parts.1
    where
      rest : (is_first x ps p && is_chosen g (nodes_of ps) (ahead p) (g.rack_of p.node)) ≡ true
      rest = (and_parts (nat_eq p.node p.node) (is_first x ps p && is_chosen g (nodes_of ps) (ahead p) (g.rack_of p.node)) h).1

      parts : (is_first x ps p ≡ true) × (is_chosen g (nodes_of ps) (ahead p) (g.rack_of p.node) ≡ true)
      parts = and_parts (is_first x ps p) (is_chosen g (nodes_of ps) (ahead p) (g.rack_of p.node)) rest

      by : (o : Option (List ℕ)) → g.rack_of p.node ≡ o → is_chosen g (nodes_of ps) (ahead p) o ≡ true → IsTaken p
      by None is c = absurd (false≢true c)
      by (Some rack) is c = record {
        rack = rack;
        in_rack = is;
        first = has-nodes_of (ahead_of x p.token ps) p.node ∙ not-true _ parts.0;
        chosen = sym (is_chosen_rack-by g (nodes_of ps) (ahead p) rack) ∙ c;
      }

  -- more replicas are found ahead of a pair that comes after one where a replica is found
  module _ (p q : Pair) (here : has_pair ps p ≡ true) (one : IsTaken p) (arc : in_arc x q.token p.token ≡ true) where
    within : IsWithin g (ahead p) (ahead q)
    within = ahead-within g ps ps x p.token q.token (λ r of before there. (there, arc-through x p.token q.token r.token arc before))

    passed : has (ahead q) p.node ≡ true
    passed = has-ahead x q.token ps p.node ∙ any_from_pair (λ r. in_arc x q.token r.token && nat_eq p.node r.node) ps p here (λ i. arc i && nat_eq_equiv.refl p.node i)

    of : is_some (g.rack_of p.node) ≡ true
    of = ap (λ o. is_some o) one.in_rack

    nodes_more : node_count g (ahead p) < node_count g (ahead q)
    nodes_more =
        distinct_count-less nat_eq_equiv (filter (λ n. is_some (g.rack_of n)) (ahead p)) (filter (λ n. is_some (g.rack_of n)) (ahead q)) p.node
        (λ v m. (let both = and_parts (has (ahead p) v) (is_some (g.rack_of v)) (sym (has-of g (ahead p) v) ∙ m) in
        has-of g (ahead q) v ∙ (λ i. within v both.1 both.0 i && both.1 i)))
        (has-of g (ahead p) p.node ∙ ap (λ b. b && is_some (g.rack_of p.node)) one.first)
        (has-of g (ahead q) p.node ∙ (λ i. passed i && of i))

    racks_more : has_rack g (ahead p) one.rack ≡ false → rack_count g (ahead p) < rack_count g (ahead q)
    racks_more new =
        distinct_count-less nat_list_eq_equiv (filter_map g.rack_of (ahead p)) (filter_map g.rack_of (ahead q)) one.rack (has_rack-of_within g (ahead p) (ahead q) within) new
        (rack_there g (ahead q) p.node one.rack one.rack passed one.in_rack (nat_list_eq_equiv.refl one.rack))

    found_more : found_ahead p < found_ahead q
    found_more =
        more_found (wanted g (nodes_of ps)) (spare g (nodes_of ps)) (node_count g (ahead p)) (rack_count g (ahead p)) (node_count g (ahead q)) (rack_count g (ahead q))
        (has_rack g (ahead p) one.rack) one.chosen (rack_count-within g (ahead p) (ahead q) within) nodes_more racks_more

  -- so at no two of them there are as many
  found_apart : (p q : Pair) → has_pair ps p ≡ true → has_pair ps q ≡ true → IsTaken p → IsTaken q → int_cmp p.token q.token ≡ Less → nat_eq (found_ahead p) (found_ahead q) ≡ false
  found_apart p q here there one other less =
      or_elim (in_arc x q.token p.token) (in_arc x p.token q.token) (one_ahead x p.token q.token less)
      (λ arc. below (found_ahead p) (found_ahead q) (found_more p q here one arc)) (λ arc. above (found_ahead p) (found_ahead q) (found_more q p there other arc))
    where
      below : (a b : ℕ) → a < b → nat_eq a b ≡ false
      below a b lt = grind (arith, nat_tests)

      above : (a b : ℕ) → b < a → nat_eq a b ≡ false
      above a b lt = grind (arith, nat_tests)

  -- ---- all of them

  abbrev AreTaken : List Pair → Type 0
  AreTaken qs = AllByRecursion (λ p. (has_pair ps p ≡ true) × IsTaken p) qs

  found_distinct : (qs : List Pair) → IsStrictlySortedBy (λ (p q : Pair). int_cmp p.token q.token) qs → AreTaken qs → IsDistinct nat_eq (map found_ahead qs)
  unfolding IsStrictlySortedBy IsDistinct
  found_distinct [] up all = tt
  found_distinct (p ∷ qs) up all = (apart qs up.0 all.1, found_distinct qs up.1 all.1)
    where
      apart : (rs : List Pair) → AllByRecursion (λ q. int_cmp p.token q.token ≡ Less) rs → AreTaken rs → AllByRecursion (λ n. nat_eq (found_ahead p) n ≡ false) (map found_ahead rs)
      apart [] less taken = tt
      apart (q ∷ rs) less taken = (found_apart p q all.0.0 taken.0.0 all.0.1 taken.0.1 less.0, apart rs less.1 taken.1)

  are_taken : (qs : List Pair) → ((p : Pair) → has_pair qs p ≡ true → has_pair ps p ≡ true) → AreTaken (filter is_taken qs)
  are_taken [] carried = tt
  are_taken (q ∷ qs) carried = by (is_taken q) refl (are_taken qs (λ p there. carried p (or_right (same_pair p q) (has_pair qs p) there)))
    where
      by : (b : Bool) → is_taken q ≡ b → AreTaken (filter is_taken qs) → AreTaken (cond b (q ∷ filter is_taken qs) (filter is_taken qs))
      by true e rest = ((carried q (or_left (same_pair q q) (has_pair qs q) (same_pair-refl q)), taken_there q e), rest)
      by false e rest = rest

  -- fewer than are wanted are ahead of each
  found_below : (qs : List Pair) → AreTaken qs → (n : ℕ) → list_any (nat_eq n) (map found_ahead qs) ≡ true → n < wanted g (nodes_of ps)
  found_below [] all n m = absurd (false≢true m)
  found_below (p ∷ qs) all n m =
      or_elim (nat_eq n (found_ahead p)) (list_any (nat_eq n) (map found_ahead qs)) m
      (λ same. less n (found_ahead p) (wanted g (nodes_of ps)) (exact_unsigned_eq n (found_ahead p) same)
      (and_parts (nat_lt (found_ahead p) (wanted g (nodes_of ps))) (not (has_rack g (ahead p) all.0.1.rack) || nat_lt (node_count g (ahead p) - rack_count g (ahead p)) (spare g (nodes_of ps))) all.0.1.chosen).0)
      (found_below qs all.1 n)
    where
      less : (a b w : ℕ) → a ≡ b → nat_lt b w ≡ true → a < w
      less a b w is lt = grind (arith, nat_tests)

  -- where tokens ascend, a replica is found at as many pairs as are wanted, or at fewer
  pub taken_few : IsStrictlySortedBy (λ (p q : Pair). int_cmp p.token q.token) ps → length (filter is_taken ps) ≤ g.rf
  taken_few up =
      let qs : List Pair = filter is_taken ps in
      let all : AreTaken qs = are_taken ps (λ p there. there) in
      let most = length-le_from_distinct_below (map found_ahead qs) (wanted g (nodes_of ps))
      (found_distinct qs (IsStrictlySortedBy-filter (λ (p q : Pair). int_cmp p.token q.token) is_taken ps up) all) (found_below qs all) in
      omega (arith, length-map qs found_ahead)

  -- each replica is found at one of them
  pub replica_taken : (v : ℕ) → is_replica g x ps v ≡ true → has (nodes_of (filter is_taken ps)) v ≡ true
  unfolding is_replica
  replica_taken v h =
      let f = found_from_any (is_chosen_at g x ps v) ps h in
      let parts = and_parts (nat_eq v f.pair.node) (is_first x ps f.pair && is_chosen g (nodes_of ps) (ahead f.pair) (g.rack_of v)) f.passes in
      let same : v ≡ f.pair.node = exact_unsigned_eq v f.pair.node parts.0 in
      let taken : is_taken f.pair ≡ true = ap (λ n. is_chosen_at g x ps n f.pair) (sym same) ∙ f.passes in
      has-nodes_of (filter is_taken ps) v ∙ any-filter (λ (p : Pair). nat_eq v p.node) is_taken ps
      ∙ any_from_pair (λ q. is_taken q && nat_eq v q.node) ps f.pair f.there (λ i. taken i && parts.0 i)
