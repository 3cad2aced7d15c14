-- The groups of a replication: no node is in two of them, each replica is in one, and none has more replicas than it asks
-- for.
use Rattle.std.proofs.Common.{◌≡◌, ℕ, ◌≤◌, Bool, true, false, ◌||◌, if◌then◌else◌, ℤ, List, [], ◌∷◌, filter, map, length, Option, Some, None, is_some, sum_by, refl, sym, ap, ◌∙◌, arith}
use Rattle.std.proofs.lemmas.Bool.{false≢true, or_left, or_right}
use Rattle.std.proofs.lemmas.Cmp.{nat_list_eq_equiv}
use Rattle.std.proofs.lemmas.List.Sums.{sum_by-cons}
use Rattle.std.proofs.lemmas.Map.Keys.{sorted_head, sorted_tail}
use Rattle.std.specs.List.{AllByRecursion}
use Rattle.std.specs.List.Sorted.{IsStrictlySortedBy}
use Rattle.std.specs.Ordering.{is_eq}
use Rattle.std.specs.Str.{bytes_eq}
use Rattle.std.specs.declared.cmp.Ordering.TheVariants.{Less}
use Rattle.cluster_terms.proofs.lists.AscendingLemmas.{weaker}
use Rattle.cluster_terms.proofs.texts.FactorsLemmas.{eq_by_name}
use Rattle.cluster_terms.proofs.placement.GroupLemmas.{has, or_elim}
use Rattle.cluster_terms.proofs.placement.PlacementCounts.{IsRing, datacenter_few, has_placed, place_few}
use Rattle.cluster_terms.proofs.placement.ReplicaAt.{IsReplicaAt-from_replica}
use Rattle.cluster_terms.specs.Factors.{by_datacenter, sum_of_factors}
use Rattle.cluster_terms.specs.Group.{Group, is_replica, is_replica_of_any, place}
use Rattle.cluster_terms.specs.NodeRow.{row_of}
use Rattle.cluster_terms.specs.Replication.{IsReplication, datacenter_group, groups_of, rack_within, total_of, whole_group}
use Rattle.cluster_terms.specs.declared.node.NodeRow.{NodeRow}
use Rattle.cluster_terms.specs.declared.replication.Replication.{Replication}
use Rattle.cluster_terms.specs.declared.replication.Replication.TheVariants.{Simple, Topology}
use Rattle.cluster_terms.specs.declared.token.Pair.{Pair}
use Rattle.transformations.proofs.lists.ListLemmas.{all_both, all_map}
use Rattle.stream_plan.proofs.pairing.SourceLemmas.{AreDisjoint, AreFew, in_any, is_in}
use Rattle.stream_plan.specs.Sources.{nodes_in}

-- ---- replicas are in groups

any_replica : (gs : List Group) (x : ℤ) (ps : List Pair) (v : ℕ) → is_replica_of_any gs x ps v ≡ true → in_any gs v ≡ true
any_replica [] x ps v h = absurd (false≢true h)
any_replica (g ∷ gs) x ps v h =
    or_elim (is_replica g x ps v) (is_replica_of_any gs x ps v) h
    (λ own. (let r = IsReplicaAt-from_replica g x ps v own in or_left (is_in g v) (in_any gs v) (ap (λ o. is_some o) r.in_rack)))
    (λ other. or_right (is_in g v) (in_any gs v) (any_replica gs x ps v other))

pub placed_in_any : (gs : List Group) (x : ℤ) (ps : List Pair) (v : ℕ) → has (place gs x ps) v ≡ true → in_any gs v ≡ true
placed_in_any gs x ps v there = any_replica gs x ps v (sym (has_placed gs x ps v) ∙ there)

-- ---- no node is in two groups

-- a node stands in one datacenter
one_place : (dc other : List ℕ) (o : Option NodeRow) → is_some (rack_within dc o) ≡ true → is_some (rack_within other o) ≡ true → bytes_eq dc other ≡ true
one_place dc other None here there = absurd (false≢true here)
one_place dc other (Some row) here there =
    nat_list_eq_equiv.congr dc row.dc other (nat_list_eq_equiv.symm dc row.dc ∙ of row.dc dc row.rack here) ∙ of row.dc other row.rack there
  where
    of : (a b rack : List ℕ) → is_some (if bytes_eq a b then Some rack else None) ≡ true → bytes_eq a b ≡ true
    of a b rack h = by (bytes_eq a b) h
      where
        by : (t : Bool) → is_some (if t then Some rack else None) ≡ true → t ≡ true
        by true e = refl
        by false e = absurd (false≢true e)

module _ (nodes : List NodeRow) where
  abbrev groups : List (List ℕ × ℕ) → List Group
  groups factors = map (datacenter_group nodes) factors

  elsewhere : (dc : List ℕ) (factors : List (List ℕ × ℕ)) (v : ℕ) → AllByRecursion (λ e. bytes_eq dc e.0 ≡ false) factors → is_some (rack_within dc (row_of nodes v)) ≡ true → in_any (groups factors) v ≡ false
  elsewhere dc [] v apart here = refl
  elsewhere dc (e ∷ es) v apart here = (λ i. by (is_in (datacenter_group nodes e) v) refl i || elsewhere dc es v apart.1 here i)
    where
      by : (b : Bool) → is_in (datacenter_group nodes e) v ≡ b → is_in (datacenter_group nodes e) v ≡ false
      by false there = there
      by true there = absurd (false≢true (sym apart.0 ∙ one_place dc e.0 (row_of nodes v) here there))

  datacenters_disjoint : (factors : List (List ℕ × ℕ)) → IsStrictlySortedBy by_datacenter factors → AreDisjoint (groups factors)
  datacenters_disjoint [] up = tt
  datacenters_disjoint (f ∷ fs) up = (
    λ v here. elsewhere f.0 fs v
        (weaker (λ e. by_datacenter f e ≡ Less) (λ e. bytes_eq f.0 e.0 ≡ false) (λ e less. sym (eq_by_name f e) ∙ ap (λ o. is_eq o) less) fs (sorted_head by_datacenter f fs up))
        here,
    datacenters_disjoint fs (sorted_tail by_datacenter f fs up),
  )

  pub groups_disjoint : (r : Replication) → IsReplication r → AreDisjoint (groups_of nodes r)
  groups_disjoint (Simple rf) valid = (λ v here. refl, tt)
  groups_disjoint (Topology factors) valid = datacenters_disjoint factors valid.ascending

  -- ---- together they ask for the total

  factors_sum : (factors : List (List ℕ × ℕ)) → sum_by (λ g. g.rf) (groups factors) ≤ sum_of_factors factors
  factors_sum [] = omega arith
  factors_sum (f ∷ fs) =
      let rest = factors_sum fs in
      omega (arith, rest, sum_by-cons (λ (g : Group). g.rf) (datacenter_group nodes f) (groups fs), sum_by-cons (λ (row : List ℕ × ℕ). row.1) f fs)

  pub groups_sum : (r : Replication) → sum_by (λ g. g.rf) (groups_of nodes r) ≤ total_of r
  groups_sum (Simple rf) = omega (arith, sum_by-cons (λ (g : Group). g.rf) (whole_group rf) [])
  groups_sum (Topology factors) = factors_sum factors

  -- ---- how many nodes they have

  all_pass : (ns : List ℕ) → filter (λ n. true) ns ≡ ns
  all_pass [] = refl
  all_pass (n ∷ ns) = ap (λ l. n ∷ l) (all_pass ns)

  module _ (x : ℤ) (ps qs : List Pair) (low : IsRing ps) (high : IsRing qs) where
    pub groups_few : (r : Replication) → IsReplication r
        → AllByRecursion (AreFew (place (groups_of nodes r) x ps) (place (groups_of nodes r) x qs)) (groups_of nodes r)
    groups_few (Simple rf) valid =
        let before : List ℕ = place (whole_group rf ∷ []) x ps in
        let after : List ℕ = place (whole_group rf ∷ []) x qs in
        let old = place_few x ps low nodes (Simple rf) in
        let new = place_few x qs high nodes (Simple rf) in
        (record { olds = omega (arith, ap length (all_pass before), old); news = omega (arith, ap length (all_pass after), new) }, tt)
    groups_few (Topology factors) valid =
        let before : List ℕ = place (groups factors) x ps in
        let after : List ℕ = place (groups factors) x qs in
        all_map (AreFew before after) (datacenter_group nodes) factors
        (all_both (λ f. length (nodes_in (datacenter_group nodes f) before) ≤ f.1) (λ f. length (nodes_in (datacenter_group nodes f) after) ≤ f.1)
        (λ f. AreFew before after (datacenter_group nodes f))
        (λ f old new. record { olds = old; news = new }) factors
        (datacenter_few x ps low nodes factors valid.ascending) (datacenter_few x qs high nodes factors valid.ascending))
