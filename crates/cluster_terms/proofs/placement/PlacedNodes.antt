-- A placement looks at the rows of the nodes that have pairs, and at no other.
use Rattle.std.proofs.Common.{◌≡◌, ℕ, Bool, true, false, ◌&&◌, ◌||◌, nat_eq, ℤ, List, [], ◌∷◌, map, filter, Option, Some, None, refl, sym, ap, ◌∙◌}
use Rattle.std.proofs.lemmas.Map.Views.{exact_unsigned_eq}
use Rattle.std.specs.List.{list_any}
use Rattle.std.specs.Str.{bytes_eq}
use Rattle.std.specs.Set.{is_member}
use Rattle.cluster_terms.proofs.placement.GroupLemmas.{is_chosen_by, is_chosen_rack-by}
use Rattle.cluster_terms.proofs.placement.PlacementLemmas.{placed_by, placed-has}
use Rattle.cluster_terms.proofs.reach.ReachNodes.{HaveSameRows, IsAlike, all-filter, datacenter-alike, node_count-alike, rack_count-alike, racks-alike, spare-alike, wanted-alike}
use Rattle.cluster_terms.specs.Arc.{in_arc}
use Rattle.cluster_terms.specs.Group.{Group, nodes_of, is_chosen, ahead_of, is_first, is_chosen_at, is_replica, is_replica_of_any, place}
use Rattle.cluster_terms.specs.Replication.{datacenter_group, groups_of}
use Rattle.cluster_terms.specs.declared.node.NodeRow.{NodeRow}
use Rattle.cluster_terms.specs.declared.replication.Replication.{Replication}
use Rattle.cluster_terms.specs.declared.replication.Replication.TheVariants.{Simple, Topology}
use Rattle.cluster_terms.specs.declared.token.Pair.{Pair}

-- ---- two groups that ask for as many replicas and have the same racks at the nodes of some pairs

module _ (g h : Group) (rf : g.rf ≡ h.rf) (x : ℤ) (ps : List Pair) (all : IsAlike g h ps) where
  chosen_alike : (ahead : List Pair) → IsAlike g h ahead → (o : Option (List ℕ)) → is_chosen g (nodes_of ps) (nodes_of ahead) o ≡ is_chosen h (nodes_of ps) (nodes_of ahead) o
  chosen_alike ahead near None = refl
  chosen_alike ahead near (Some rack) =
      let racks = racks-alike g h rf ahead near in
      is_chosen_rack-by g (nodes_of ps) (nodes_of ahead) rack
      ∙ (λ i. is_chosen_by (wanted-alike g h rf ps all i) (spare-alike g h rf ps all i) (node_count-alike g h rf ahead near i) (rack_count-alike g h rf ahead near i) (is_member bytes_eq (racks i) rack))
      ∙ sym (is_chosen_rack-by h (nodes_of ps) (nodes_of ahead) rack)

  at_alike : (v : ℕ) (p : Pair) → g.rack_of p.node ≡ h.rack_of p.node → is_chosen_at g x ps v p ≡ is_chosen_at h x ps v p
  at_alike v p same = by (nat_eq v p.node) refl
    where
      ahead : List Pair
      ahead = ahead_of x p.token ps

      near : IsAlike g h ahead
      near = all-filter (λ (q : Pair). g.rack_of q.node ≡ h.rack_of q.node) (λ (q : Pair). in_arc x p.token q.token) ps all

      by : (b : Bool) → nat_eq v p.node ≡ b
          → (b && (is_first x ps p && is_chosen g (nodes_of ps) (nodes_of ahead) (g.rack_of v))) ≡ (b && (is_first x ps p && is_chosen h (nodes_of ps) (nodes_of ahead) (h.rack_of v)))
      by true e =
          let node : v ≡ p.node = exact_unsigned_eq v p.node e in
          let rack : g.rack_of v ≡ h.rack_of v = ap g.rack_of node ∙ same ∙ sym (ap h.rack_of node) in
          ap (λ b. is_first x ps p && b) (ap (is_chosen g (nodes_of ps) (nodes_of ahead)) rack ∙ chosen_alike ahead near (h.rack_of v))
      by false e = refl

  any_alike : (v : ℕ) (qs : List Pair) → IsAlike g h qs → list_any (is_chosen_at g x ps v) qs ≡ list_any (is_chosen_at h x ps v) qs
  any_alike v [] near = refl
  any_alike v (q ∷ qs) near = let rest = any_alike v qs near.1 in λ i. at_alike v q near.0 i || rest i

  replica_alike : (v : ℕ) → is_replica g x ps v ≡ is_replica h x ps v
  unfolding is_replica
  replica_alike v = any_alike v ps all

-- ---- the same rows

module _ (nodes nodes' : List NodeRow) (x : ℤ) (ps : List Pair) (rows : HaveSameRows nodes nodes' ps) where
  replicas_alike : (factors : List (List ℕ × ℕ)) (v : ℕ) → is_replica_of_any (map (datacenter_group nodes) factors) x ps v ≡ is_replica_of_any (map (datacenter_group nodes') factors) x ps v
  replicas_alike [] v = refl
  replicas_alike (f ∷ fs) v =
      let here = replica_alike (datacenter_group nodes f) (datacenter_group nodes' f) refl x ps (datacenter-alike nodes nodes' f ps rows) v in
      let rest = replicas_alike fs v in
      λ i. here i || rest i

  pub placed_nodes : (r : Replication) → place (groups_of nodes r) x ps ≡ place (groups_of nodes' r) x ps
  unfolding place
  placed_nodes (Simple rf) = refl
  placed_nodes (Topology factors) =
      let gs : List Group = map (datacenter_group nodes) factors in
      let hs : List Group = map (datacenter_group nodes') factors in
      placed_by x ps gs (filter (is_replica_of_any hs x ps) (nodes_of ps)) (λ v. placed-has x ps hs v ∙ sym (replicas_alike factors v))
