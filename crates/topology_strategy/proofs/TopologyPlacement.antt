-- The walks of some datacenters take the placement.
use Rattle.std.proofs.Common.{◌≡◌, ℕ, ◌||◌, nat_eq, ℤ, List, [], ◌∷◌, ◌++◌, take, drop, map, refl, sym, ap, ◌∙◌}
use Rattle.std.proofs.lemmas.List.Folds.{list_any-append}
use Rattle.std.specs.Ordering.{nat_cmp}
use Rattle.cluster_terms.specs.Ascending.{ascending}
use Rattle.cluster_terms.specs.Group.{Group, nodes_of, place, is_replica, is_replica_of_any}
use Rattle.cluster_terms.specs.Replication.{datacenter_group}
use Rattle.cluster_terms.specs.declared.node.NodeRow.{NodeRow}
use Rattle.cluster_terms.specs.declared.token.Pair.{Pair}
use Rattle.cluster_terms.proofs.placement.GroupLemmas.{has}
use Rattle.cluster_terms.proofs.placement.PlacementLemmas.{nodes_of-append, placed_by}
use Rattle.token_ring.proofs.PlaceLemmas.{replica_on_walk}
use Rattle.token_ring.proofs.RingLemmas.{walk_from}
use Rattle.token_ring.specs.Ring.{IsRing, IsFirstAt}
use Rattle.topology_strategy.proofs.GroupWalks.{has-taken_along, found_after-append}
use Rattle.node_directory.specs.Shape.{shape_of}
use Rattle.topology_strategy.specs.DatacenterShapes.{shapes_of}
use Rattle.topology_strategy.specs.Walk.{Found, found_after, taken_along, taken_in_all}
use Rattle.node_directory.specs.declared.shape.Shape.{Shape}

module _ (nodes : List NodeRow) (ps : List Pair) (x : ℤ) (i : ℕ) (ring : IsRing ps) (first : IsFirstAt ps x i) where
  -- the walk from the first token on, round the ring
  abbrev walk : List ℕ
  walk = nodes_of (drop i ps) ++ nodes_of (take i ps)

  pub taken_there : (g : Group) (v : ℕ) → has (taken_along walk g (shape_of (nodes_of ps) g)) v ≡ is_replica g x ps v
  taken_there g v =
      ap (λ ns. has (taken_along ns g (shape_of (nodes_of ps) g)) v) (sym (nodes_of-append (drop i ps) (take i ps)))
      ∙ has-taken_along g (nodes_of ps) (nodes_of (walk_from i ps)) v
      ∙ sym (replica_on_walk ps x i ring first g v)

  taken_in_each : (factors : List (List ℕ × ℕ)) (v : ℕ)
      → has (taken_in_all walk nodes factors (shapes_of nodes factors (nodes_of ps))) v ≡ is_replica_of_any (map (datacenter_group nodes) factors) x ps v
  taken_in_each [] v = refl
  taken_in_each (f ∷ factors) v =
      let g = datacenter_group nodes f in
      list_any-append (nat_eq v) (taken_along walk g (shape_of (nodes_of ps) g)) (taken_in_all walk nodes factors (shapes_of nodes factors (nodes_of ps)))
      ∙ (λ j. taken_there g v j || taken_in_each factors v j)

  -- what the walks take in datacenters with their shapes is the placement
  pub placed_by_walks : (factors : List (List ℕ × ℕ))
      → place (map (datacenter_group nodes) factors) x ps ≡ ascending nat_cmp (taken_in_all walk nodes factors (shapes_of nodes factors (nodes_of ps)))
  placed_by_walks factors = placed_by x ps (map (datacenter_group nodes) factors) (taken_in_all walk nodes factors (shapes_of nodes factors (nodes_of ps))) (taken_in_each factors)

-- a walk in two parts
pub taken_in_parts : (g : Group) (shape : Shape) (ms ns : List ℕ) (begun middle found : Found)
    → begun ≡ record { taken = []; racks = []; repeats = shape.spare } → middle ≡ found_after g shape.wanted ms begun → found ≡ found_after g shape.wanted ns middle
    → found.taken ≡ taken_along (ms ++ ns) g shape
taken_in_parts g shape ms ns begun middle found b m f =
    ap (λ (t : Found). t.taken) (f ∙ ap (found_after g shape.wanted ns) (m ∙ ap (found_after g shape.wanted ms) b) ∙ sym (found_after-append g shape.wanted ms ns _))
