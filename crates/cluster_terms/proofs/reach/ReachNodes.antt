-- Reach looks at the rows of the nodes that have pairs, and at no other.
use Rattle.std.proofs.Common.{◌≡◌, ℕ, Bool, true, false, ◌&&◌, ◌||◌, if◌then◌else◌, nat_eq, ℤ, List, [], ◌∷◌, map, filter, filter_map, is_some, refl, sym, ap, ◌∙◌, ◌-◌, min}
use Rattle.std.specs.List.{AllByRecursion, cons_option}
use Rattle.std.specs.Set.{distinct_count}
use Rattle.std.specs.Str.{bytes_eq}
use Rattle.cluster_terms.proofs.reach.ReachSame.{reaches_by, reaches-by}
use Rattle.cluster_terms.specs.Arc.{in_arc}
use Rattle.cluster_terms.specs.Group.{Group, nodes_of, node_count, rack_count, wanted, spare, ahead_of}
use Rattle.cluster_terms.specs.NodeRow.{row_of}
use Rattle.cluster_terms.specs.Reach.{reaches, is_reached_in, is_reached}
use Rattle.cluster_terms.specs.Replication.{rack_within, datacenter_group, groups_of}
use Rattle.cluster_terms.specs.declared.node.NodeRow.{NodeRow}
use Rattle.cluster_terms.specs.declared.replication.Replication.{Replication}
use Rattle.cluster_terms.specs.declared.replication.Replication.TheVariants.{Simple, Topology}
use Rattle.cluster_terms.specs.declared.token.Pair.{Pair}

pub all-filter : {X : Type 0} (P : X → Type 0) (test : X → Bool) (qs : List X) → AllByRecursion P qs → AllByRecursion P (filter test qs)
all-filter P test [] a = a
all-filter P test (q ∷ qs) a = by (test q) (all-filter P test qs a.1)
  where
    by : (b : Bool) → AllByRecursion P (filter test qs) → AllByRecursion P (if b then q ∷ filter test qs else filter test qs)
    by true rest = (a.0, rest)
    by false rest = rest

-- ---- two groups that ask for as many replicas and have the same racks at the nodes of some pairs

-- whether two groups have the same racks at the nodes of some pairs
abbrev pub IsAlike : Group → Group → List Pair → Type 0
IsAlike g h ps = AllByRecursion (λ (p : Pair). g.rack_of p.node ≡ h.rack_of p.node) ps

module _ (g h : Group) (rf : g.rf ≡ h.rf) where
  members-alike : (ps : List Pair) → IsAlike g h ps → filter (λ n. is_some (g.rack_of n)) (nodes_of ps) ≡ filter (λ n. is_some (h.rack_of n)) (nodes_of ps)
  members-alike [] a = refl
  members-alike (p ∷ ps) a = let rest = members-alike ps a.1 in λ i. if is_some (a.0 i) then p.node ∷ rest i else rest i

  pub racks-alike : (ps : List Pair) → IsAlike g h ps → filter_map g.rack_of (nodes_of ps) ≡ filter_map h.rack_of (nodes_of ps)
  racks-alike [] a = refl
  racks-alike (p ∷ ps) a = let rest = racks-alike ps a.1 in λ i. cons_option (a.0 i) (rest i)

  pub node_count-alike : (ps : List Pair) → IsAlike g h ps → node_count g (nodes_of ps) ≡ node_count h (nodes_of ps)
  node_count-alike ps a = ap (distinct_count nat_eq) (members-alike ps a)

  pub rack_count-alike : (ps : List Pair) → IsAlike g h ps → rack_count g (nodes_of ps) ≡ rack_count h (nodes_of ps)
  rack_count-alike ps a = ap (distinct_count bytes_eq) (racks-alike ps a)

  pub wanted-alike : (ps : List Pair) → IsAlike g h ps → wanted g (nodes_of ps) ≡ wanted h (nodes_of ps)
  wanted-alike ps a = λ i. min (rf i) (node_count-alike ps a i)

  pub spare-alike : (ps : List Pair) → IsAlike g h ps → spare g (nodes_of ps) ≡ spare h (nodes_of ps)
  spare-alike ps a = λ i. rf i - min (rf i) (rack_count-alike ps a i)

  module _ (fixed widest : List Pair) (x : ℤ) (f : IsAlike g h fixed) (w : IsAlike g h widest) where
    reaches-alike : (y : ℤ) → reaches g fixed widest x y ≡ reaches h fixed widest x y
    reaches-alike y =
        let ahead = all-filter (λ (p : Pair). g.rack_of p.node ≡ h.rack_of p.node) (λ (q : Pair). in_arc x y q.token) fixed f in
        let d = node_count-alike (ahead_of x y fixed) ahead in
        let p = rack_count-alike (ahead_of x y fixed) ahead in
        reaches-by g fixed widest x y
        ∙ (λ i. reaches_by (wanted-alike fixed f i) (wanted-alike widest w i) (spare-alike fixed f i) (spare-alike widest w i) (d i) (p i))
        ∙ sym (reaches-by h fixed widest x y)

    reached_in-alike : (moved : List Pair) → IsAlike g h moved → is_reached_in fixed widest moved x g ≡ is_reached_in fixed widest moved x h
    reached_in-alike [] m = refl
    reached_in-alike (p ∷ ps) m =
        let rest = reached_in-alike ps m.1 in
        λ i. (is_some (m.0 i) && reaches-alike p.token i) || rest i

-- ---- the same rows

module _ (nodes nodes' : List NodeRow) where
  -- whether the nodes of some pairs have the same rows
  abbrev pub HaveSameRows : List Pair → Type 0
  HaveSameRows ps = AllByRecursion (λ (p : Pair). row_of nodes p.node ≡ row_of nodes' p.node) ps

  pub datacenter-alike : (c : List ℕ × ℕ) (ps : List Pair) → HaveSameRows ps → IsAlike (datacenter_group nodes c) (datacenter_group nodes' c) ps
  datacenter-alike c [] a = a
  datacenter-alike c (p ∷ ps) a = (ap (rack_within c.0) a.0, datacenter-alike c ps a.1)

  module _ (fixed widest moved : List Pair) (x : ℤ) (f : HaveSameRows fixed) (w : HaveSameRows widest) (m : HaveSameRows moved) where
    datacenters-alike : (factors : List (List ℕ × ℕ)) → is_reached (map (datacenter_group nodes) factors) fixed widest moved x ≡ is_reached (map (datacenter_group nodes') factors) fixed widest moved x
    datacenters-alike [] = refl
    datacenters-alike (c ∷ cs) =
        let here = reached_in-alike (datacenter_group nodes c) (datacenter_group nodes' c) refl fixed widest x (datacenter-alike c fixed f) (datacenter-alike c widest w) moved (datacenter-alike c moved m) in
        let rest = datacenters-alike cs in
        λ i. here i || rest i

-- reach looks at the rows of the nodes that have pairs, and at no other
pub reached-nodes : (nodes nodes' : List NodeRow) (replication : Replication) (fixed widest moved : List Pair) (x : ℤ)
    → AllByRecursion (λ p. row_of nodes p.node ≡ row_of nodes' p.node) fixed → AllByRecursion (λ p. row_of nodes p.node ≡ row_of nodes' p.node) widest
    → AllByRecursion (λ p. row_of nodes p.node ≡ row_of nodes' p.node) moved
    → is_reached (groups_of nodes replication) fixed widest moved x ≡ is_reached (groups_of nodes' replication) fixed widest moved x
reached-nodes nodes nodes' (Simple rf) fixed widest moved x f w m = refl
reached-nodes nodes nodes' (Topology factors) fixed widest moved x f w m = datacenters-alike nodes nodes' fixed widest moved x f w m factors
