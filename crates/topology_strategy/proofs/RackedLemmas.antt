-- The pairs of a group, with the racks of their nodes.
use Rattle.std.proofs.Common.{◌≡◌, ℕ, suc, zero, ◌<◌, ◌||◌, false, ℤ, ◌<ℤ◌, List, [], ◌∷◌, ◌++◌, length, map, take, drop, Some, is_some, refl, sym, ap, ◌∙◌, subst, arith}
use Rattle.std.proofs.lemmas.List.{drop-map, take-map}
use Rattle.std.proofs.lemmas.List.Kept.{AllPairs-filter}
use Rattle.std.specs.List.{list_any}
use Rattle.cluster_terms.specs.Group.{Group, nodes_of, is_replica, is_replica_of_any}
use Rattle.cluster_terms.specs.Replication.{datacenter_group}
use Rattle.cluster_terms.specs.declared.node.NodeRow.{NodeRow}
use Rattle.cluster_terms.specs.declared.token.Pair.{Pair}
use Rattle.cluster_terms.proofs.placement.GroupLemmas.{has}
use Rattle.node_directory.specs.Shape.{shape_of}
use Rattle.node_directory.specs.declared.shape.Shape.{Shape}
use Rattle.token_ring.specs.Ring.{IsRing, IsFirstAt}
use Rattle.topology_strategy.specs.DatacenterRing.{factors_of}
use Rattle.topology_strategy.specs.code.RingParts.{is_replica_in, parts_of}
use Rattle.topology_strategy.specs.code.RackedPairs.{AreListed, HaveRacks}
use Rattle.topology_strategy.specs.Walk.{Found, found_after, taken_along}
use Rattle.topology_strategy.specs.code.WalkAmong.{found_among}
use Rattle.topology_strategy.proofs.TopologyPlacement.{taken_in_parts, taken_there}
use Rattle.topology_strategy.proofs.WithinLemmas.{among-after, replica_within, shape_of-within}

-- ---- the replicas of a group

-- the pairs of a group have the shape that it has in the ring
pub listed_shape : (g : Group) (ring pairs : List Pair) (racks : List (List ℕ)) → AreListed g ring pairs racks → shape_of (nodes_of pairs) g ≡ shape_of (nodes_of ring) g
listed_shape g ring pairs racks within = ap (λ l. shape_of (nodes_of l) g) within.listed ∙ shape_of-within g ring

module _ (g : Group) (ring pairs : List Pair) (racks : List (List ℕ)) (is : IsRing ring) (within : AreListed g ring pairs racks) where
  -- its pairs ascend
  pub listed_ring : IsRing pairs
  listed_ring = subst IsRing (sym within.listed) (AllPairs-filter (λ (p q : Pair). p.token <ℤ q.token) (λ p. is_some (g.rack_of p.node)) ring is)

  rest_racks : (j : ℕ) → HaveRacks g (drop j pairs) (drop j racks)
  rest_racks j = sym (drop-map (λ (p : Pair). g.rack_of p.node) j pairs) ∙ ap (drop j) within.racked ∙ drop-map (λ (r : List ℕ). Some r) j racks

  front_racks : (j : ℕ) → HaveRacks g (take j pairs) (take j racks)
  front_racks j = sym (take-map (λ (p : Pair). g.rack_of p.node) j pairs) ∙ ap (take j) within.racked ∙ take-map (λ (r : List ℕ). Some r) j racks

  nowhere : (x : ℤ) (v : ℕ) → is_replica g x [] v ≡ false
  unfolding is_replica
  nowhere x v = refl

  nothing : (k : ℕ) → taken_along (nodes_of (drop k []) ++ nodes_of (take k [])) g (shape_of [] g) ≡ []
  nothing zero = refl
  nothing (suc k) = refl

  -- a walk along them from their first token at or after x takes the replicas
  pub taken_within : (x : ℤ) (j : ℕ) (shape : Shape) → (0 < length pairs → IsFirstAt pairs x j) → shape ≡ shape_of (nodes_of ring) g
      → (begun middle found : Found) → begun ≡ record { taken = []; racks = []; repeats = shape.spare }
      → middle ≡ found_among shape.wanted (nodes_of (drop j pairs)) (drop j racks) begun
      → found ≡ found_among shape.wanted (nodes_of (take j pairs)) (take j racks) middle
      → (v : ℕ) → has found.taken v ≡ is_replica g x ring v
  taken_within x j shape first counted begun middle found b m f v = by pairs refl
    where
      rest : middle ≡ found_after g shape.wanted (nodes_of (drop j pairs)) begun
      rest = m ∙ among-after g shape.wanted (drop j pairs) (drop j racks) begun (rest_racks j)

      front : found ≡ found_after g shape.wanted (nodes_of (take j pairs)) middle
      front = f ∙ among-after g shape.wanted (take j pairs) (take j racks) middle (front_racks j)

      walked : found.taken ≡ taken_along (nodes_of (drop j pairs) ++ nodes_of (take j pairs)) g (shape_of (nodes_of pairs) g)
      walked = taken_in_parts g shape (nodes_of (drop j pairs)) (nodes_of (take j pairs)) begun middle found b rest front
          ∙ ap (taken_along (nodes_of (drop j pairs) ++ nodes_of (take j pairs)) g) (counted ∙ sym (listed_shape g ring pairs racks within))

      there : is_replica g x pairs v ≡ is_replica g x ring v
      there = ap (λ l. is_replica g x l v) within.listed ∙ replica_within g x ring v

      by : (qs : List Pair) → pairs ≡ qs → has found.taken v ≡ is_replica g x ring v
      by [] none =
          ap (λ l. has l v) walked
          ∙ ap (λ l. has (taken_along (nodes_of (drop j l) ++ nodes_of (take j l)) g (shape_of (nodes_of l) g)) v) none
          ∙ ap (λ l. has l v) (nothing j) ∙ sym (ap (λ l. is_replica g x l v) none ∙ nowhere x v) ∙ there
      by (q ∷ qs) some =
          let many : 0 < length pairs = subst (λ l. 0 < length l) (sym some) (omega arith) in
          ap (λ l. has l v) walked ∙ taken_there [] pairs x j listed_ring (first many) g v ∙ there

-- ---- the parts of a ring

pub factors_of_parts : (ring : List Pair) (nodes : List NodeRow) (factors : List (List ℕ × ℕ)) → factors_of (parts_of ring nodes factors) ≡ factors
factors_of_parts ring nodes [] = refl
factors_of_parts ring nodes (f ∷ factors) = ap (λ rest. f ∷ rest) (factors_of_parts ring nodes factors)

-- the replicas of some datacenters
pub parts_replicas : (ring : List Pair) (nodes : List NodeRow) (factors : List (List ℕ × ℕ)) (x : ℤ) (v : ℕ)
    → list_any (λ part. is_replica_in part x v) (parts_of ring nodes factors) ≡ is_replica_of_any (map (datacenter_group nodes) factors) x ring v
parts_replicas ring nodes [] x v = refl
parts_replicas ring nodes (f ∷ factors) x v = ap (λ b. is_replica (datacenter_group nodes f) x ring v || b) (parts_replicas ring nodes factors x v)
