-- What changes between two rings that have the same pairs in all datacenters but some.
use Rattle.std.proofs.Common.{◌≡◌, ℕ, Bool, true, false, not, ◌&&◌, ◌||◌, if◌then◌else◌, ℤ, List, [], ◌∷◌, Option, Some, None, map, refl, sym, ap, ◌∙◌}
use Rattle.std.proofs.Math.Bool.{and-false}
use Rattle.std.proofs.lemmas.Map.Keys.{IsStrictlyIncreasing-from_sorted}
use Rattle.std.proofs.lemmas.Slice.Eq.{bytes_eq-Decides}
use Rattle.std.specs.List.{list_any}
use Rattle.std.specs.Str.{bytes_eq}
use Rattle.cluster_terms.proofs.lists.AscendingNumbers.{ascending_from_same_members, ascending_same_numbers}
use Rattle.cluster_terms.proofs.placement.PlacementCounts.{has_placed, place_ascends}
use Rattle.cluster_terms.proofs.placement.PlacementLemmas.{any-filter}
use Rattle.cluster_terms.proofs.placement.ReplicaAt.{IsReplicaAt-from_replica}
use Rattle.cluster_terms.specs.Group.{is_replica, is_replica_of_any}
use Rattle.cluster_terms.specs.NodeRow.{row_of}
use Rattle.cluster_terms.specs.Replication.{datacenter_group, rack_within}
use Rattle.cluster_terms.specs.declared.node.NodeRow.{NodeRow}
use Rattle.cluster_terms.specs.declared.token.Pair.{Pair}
use Rattle.node_sets.proofs.SetLemmas.{has-without, without_increases}
use Rattle.node_sets.specs.NodeSets.{IsNodeSet, has_node, without}
use Rattle.topology_strategy.specs.GroupedRing.{homes_of, is_home, topology_placement}
use Rattle.topology_strategy.specs.code.RackedPairs.{pairs_within}
use Rattle.topology_strategy.proofs.WithinLemmas.{replica_within}

-- the replicas of some datacenters in a ring
module _ (nodes : List NodeRow) (moved : List Pair) (x : ℤ) where
  abbrev is_in : List Pair → ℕ → List ℕ × ℕ → Bool
  is_in ring v f = is_replica (datacenter_group nodes f) x ring v

  replica_of_parts : (ring : List Pair) (factors : List (List ℕ × ℕ)) (v : ℕ) → is_replica_of_any (map (datacenter_group nodes) factors) x ring v ≡ list_any (is_in ring v) factors
  replica_of_parts ring [] v = refl
  replica_of_parts ring (f ∷ factors) v = ap (λ b. is_in ring v f || b) (replica_of_parts ring factors v)

  -- a replica's own datacenter has the name of the factor
  abbrev home : Option NodeRow → Bool
  home None = false
  home (Some row) = is_home nodes moved row.dc

  named : (dc rack : List ℕ) (o : Option NodeRow) → rack_within dc o ≡ Some rack → is_home nodes moved dc ≡ home o
  named dc rack None e = absurd (cc)
  named dc rack (Some row) e = by (bytes_eq row.dc dc) refl e
    where
      by : (b : Bool) → bytes_eq row.dc dc ≡ b → (if b then Some row.rack else None) ≡ Some rack → is_home nodes moved dc ≡ is_home nodes moved row.dc
      by true same e = ap (is_home nodes moved) (sym ((bytes_eq-Decides row.dc dc).0 same))
      by false same e = absurd (cc)

  at_home : (ring : List Pair) (v : ℕ) (f : List ℕ × ℕ) → is_in ring v f ≡ true → is_home nodes moved f.0 ≡ home (row_of nodes v)
  at_home ring v f h =
      let at = IsReplicaAt-from_replica (datacenter_group nodes f) x ring v h in
      named f.0 at.rack (row_of nodes v) at.in_rack

  at_homes : (ring : List Pair) (factors : List (List ℕ × ℕ)) (v : ℕ) → list_any (is_in ring v) (homes_of nodes moved factors) ≡ list_any (λ f. is_home nodes moved f.0 && is_in ring v f) factors
  at_homes ring factors v = any-filter (is_in ring v) (λ f. is_home nodes moved f.0) factors

  -- a node of such a datacenter is a replica there alone, and any other node is none there
  there_alone : (ring : List Pair) (v : ℕ) → home (row_of nodes v) ≡ true → (f : List ℕ × ℕ) → (is_home nodes moved f.0 && is_in ring v f) ≡ is_in ring v f
  there_alone ring v there f = by (is_in ring v f) refl
    where
      by : (b : Bool) → is_in ring v f ≡ b → (is_home nodes moved f.0 && is_in ring v f) ≡ is_in ring v f
      by true e = ap (λ b. b && is_in ring v f) (at_home ring v f e ∙ there)
      by false e = ap (λ b. is_home nodes moved f.0 && b) e ∙ and-false (is_home nodes moved f.0) ∙ sym e

  none_there : (ring : List Pair) (v : ℕ) → home (row_of nodes v) ≡ false → (f : List ℕ × ℕ) → (is_home nodes moved f.0 && is_in ring v f) ≡ false
  none_there ring v away f = by (is_in ring v f) refl
    where
      by : (b : Bool) → is_in ring v f ≡ b → (is_home nodes moved f.0 && is_in ring v f) ≡ false
      by true e = ap (λ b. b && is_in ring v f) (at_home ring v f e ∙ away)
      by false e = ap (λ b. is_home nodes moved f.0 && b) e ∙ and-false (is_home nodes moved f.0)

-- tests of which none holds
any_none : (factors : List (List ℕ × ℕ)) → list_any (λ f. false) factors ≡ false
any_none [] = refl
any_none (f ∷ factors) = any_none factors

and_not : (b : Bool) → (b && not b) ≡ false
and_not true = refl
and_not false = refl

-- two rings with the same pairs in the datacenters that have none of the moved nodes
module _ (nodes : List NodeRow) (moved one other : List Pair)
    (alike : (f : List ℕ × ℕ) → is_home nodes moved f.0 ≡ false → pairs_within (datacenter_group nodes f) one ≡ pairs_within (datacenter_group nodes f) other) (x : ℤ) (factors : List (List ℕ × ℕ)) where
  -- the nodes of these datacenters are the same replicas in both rings
  same_away : (v : ℕ) → home nodes moved x (row_of nodes v) ≡ false → (f : List ℕ × ℕ) → is_in nodes moved x one v f ≡ is_in nodes moved x other v f
  same_away v away f = by (is_home nodes moved f.0) refl
    where
      none_in : (ring : List Pair) → is_home nodes moved f.0 ≡ true → is_in nodes moved x ring v f ≡ false
      none_in ring e = sym (ap (λ b. b && is_in nodes moved x ring v f) e) ∙ none_there nodes moved x ring v away f

      by : (b : Bool) → is_home nodes moved f.0 ≡ b → is_in nodes moved x one v f ≡ is_in nodes moved x other v f
      by true e = none_in one e ∙ sym (none_in other e)
      by false e =
          let g = datacenter_group nodes f in
          sym (replica_within g x one v) ∙ ap (λ ps. is_replica g x ps v) (alike f e) ∙ replica_within g x other v

  -- so a node comes to the placement where it comes to that in the moved nodes' datacenters
  comes : (v : ℕ) → (list_any (is_in nodes moved x other v) (homes_of nodes moved factors) && not (list_any (is_in nodes moved x one v) (homes_of nodes moved factors)))
      ≡ (list_any (is_in nodes moved x other v) factors && not (list_any (is_in nodes moved x one v) factors))
  comes v = by (home nodes moved x (row_of nodes v)) refl
    where
      found : List Pair → Bool
      found ring = list_any (is_in nodes moved x ring v) factors

      there : (ring : List Pair) → home nodes moved x (row_of nodes v) ≡ true → list_any (is_in nodes moved x ring v) (homes_of nodes moved factors) ≡ found ring
      there ring e = at_homes nodes moved x ring factors v ∙ (λ i. list_any (λ f. there_alone nodes moved x ring v e f i) factors)

      by : (b : Bool) → home nodes moved x (row_of nodes v) ≡ b
          → (list_any (is_in nodes moved x other v) (homes_of nodes moved factors) && not (list_any (is_in nodes moved x one v) (homes_of nodes moved factors))) ≡ (found other && not (found one))
      by true e = λ i. there other e i && not (there one e i)
      by false e =
          ap (λ b. b && not (list_any (is_in nodes moved x one v) (homes_of nodes moved factors)))
          (at_homes nodes moved x other factors v ∙ (λ i. list_any (λ f. none_there nodes moved x other v e f i) factors) ∙ any_none factors)
          ∙ sym (ap (λ b. found other && not b) (λ i. list_any (λ f. same_away v e f i) factors) ∙ and_not (found other))

  abbrev new_nodes : List (List ℕ × ℕ) → List ℕ
  new_nodes fs = without (topology_placement nodes fs x other) (topology_placement nodes fs x one)

  up : (fs : List (List ℕ × ℕ)) → IsNodeSet (new_nodes fs)
  up fs =
      let placed = topology_placement nodes fs x other in
      without_increases placed (topology_placement nodes fs x one) (IsStrictlyIncreasing-from_sorted placed (place_ascends (map (datacenter_group nodes) fs) x other))

  has_new : (fs : List (List ℕ × ℕ)) (v : ℕ) → has_node (new_nodes fs) v ≡ (list_any (is_in nodes moved x other v) fs && not (list_any (is_in nodes moved x one v) fs))
  has_new fs v =
      has-without (topology_placement nodes fs x other) (topology_placement nodes fs x one) v
      ∙ (λ i. in_ring other i && not (in_ring one i))
    where
      in_ring : (ring : List Pair) → has_node (topology_placement nodes fs x ring) v ≡ list_any (is_in nodes moved x ring v) fs
      in_ring ring = has_placed (map (datacenter_group nodes) fs) x ring v ∙ replica_of_parts nodes moved x ring fs v

  pub new_at_homes : new_nodes (homes_of nodes moved factors) ≡ new_nodes factors
  new_at_homes =
      ascending_from_same_members (new_nodes (homes_of nodes moved factors)) (new_nodes factors) (up (homes_of nodes moved factors))
      (λ v. has_new (homes_of nodes moved factors) v ∙ comes v ∙ sym (has_new factors v))
      ∙ ascending_same_numbers (new_nodes factors) (up factors)
