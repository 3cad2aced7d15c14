-- How many nodes a placement has: no more than its replication asks for, in all and in each datacenter.
use Rattle.std.proofs.Common.{◌≡◌, ℕ, ◌≤◌, Bool, true, false, if◌then◌else◌, nat_eq, ℤ, List, [], ◌∷◌, map, filter, flat_map, length, Option, Some, None, is_some, refl, sym, ap, ◌∙◌, arith, length-append}
use Rattle.std.proofs.lemmas.Bool.{false≢true, and_parts, or_left, or_right}
use Rattle.std.proofs.lemmas.Cmp.{nat_list_eq_equiv}
use Rattle.std.proofs.lemmas.List.{length-map}
use Rattle.std.proofs.lemmas.List.Folds.{list_any-append}
use Rattle.std.proofs.lemmas.List.Kept.{IsStrictlySortedBy-filter}
use Rattle.std.proofs.lemmas.List.Sums.{sum_by-cons}
use Rattle.std.proofs.lemmas.Map.Keys.{sorted_head, sorted_tail}
use Rattle.std.proofs.lemmas.Map.Made.{length-le_from_is_member}
use Rattle.std.specs.Cmp.{nat_eq_equiv, nat_cmp_total}
use Rattle.std.specs.List.{AllByRecursion}
use Rattle.std.specs.List.Sorted.{IsStrictlySortedBy}
use Rattle.std.specs.Ordering.{nat_cmp, int_cmp, is_eq}
use Rattle.std.specs.Str.{bytes_eq}
use Rattle.std.specs.declared.cmp.Ordering.TheVariants.{Less}
use Rattle.cluster_terms.proofs.lists.AscendingLemmas.{ascending_sorted, member-ascending, weaker}
use Rattle.cluster_terms.proofs.texts.FactorsLemmas.{eq_by_name}
use Rattle.cluster_terms.proofs.placement.GroupLemmas.{has, or_elim}
use Rattle.cluster_terms.proofs.placement.PlacementLemmas.{placed-has, replica-has, tied}
use Rattle.cluster_terms.proofs.quorums.QuorumLemmas.{Ascend, ascend_distinct, has_filter}
use Rattle.cluster_terms.proofs.placement.ReplicaAt.{IsReplicaAt-from_replica}
use Rattle.cluster_terms.proofs.placement.ReplicaCounts.{is_taken, replica_taken, taken_few}
use Rattle.cluster_terms.specs.Factors.{by_datacenter, sum_of_factors}
use Rattle.cluster_terms.specs.Group.{Group, nodes_of, is_replica, is_replica_of_any, place}
use Rattle.cluster_terms.specs.NodeRow.{row_of}
use Rattle.cluster_terms.specs.Replication.{datacenter_group, groups_of, rack_within, total_of, whole_group}
use Rattle.cluster_terms.specs.declared.node.NodeRow.{NodeRow}
use Rattle.cluster_terms.specs.declared.replication.Replication.{Replication}
use Rattle.cluster_terms.specs.declared.replication.Replication.TheVariants.{Simple, Topology}
use Rattle.cluster_terms.specs.declared.token.Pair.{Pair}

-- ---- a placement ascends, and has the replicas

pub place_ascends : (gs : List Group) (x : ℤ) (ps : List Pair) → Ascend (place gs x ps)
unfolding place
place_ascends gs x ps = ascending_sorted nat_cmp nat_cmp_total (filter (is_replica_of_any gs x ps) (nodes_of ps))

pub has_placed : (gs : List Group) (x : ℤ) (ps : List Pair) (v : ℕ) → has (place gs x ps) v ≡ is_replica_of_any gs x ps v
unfolding place
has_placed gs x ps v =
    let found : List ℕ = filter (is_replica_of_any gs x ps) (nodes_of ps) in
    sym (tied (place gs x ps) v) ∙ member-ascending nat_cmp nat_cmp_total found v ∙ tied found v ∙ placed-has x ps gs v

-- its nodes have pairs
pub placed_within : (gs : List Group) (x : ℤ) (ps : List Pair) (v : ℕ) → has (place gs x ps) v ≡ true → has (nodes_of ps) v ≡ true
placed_within gs x ps v there = replica-has x ps gs v (sym (has_placed gs x ps v) ∙ there)

-- ---- in all

-- pairs that ascend by token
abbrev pub IsRing : List Pair → Type 0
IsRing ps = IsStrictlySortedBy (λ (p q : Pair). int_cmp p.token q.token) ps

module _ (x : ℤ) (ps : List Pair) (ring : IsRing ps) where
  -- the nodes of the pairs at which the groups find replicas
  abbrev taken : List Group → List ℕ
  taken gs = flat_map (λ g. nodes_of (filter (is_taken g x ps) ps)) gs

  any_taken : (gs : List Group) (v : ℕ) → is_replica_of_any gs x ps v ≡ true → has (taken gs) v ≡ true
  any_taken [] v h = absurd (false≢true h)
  any_taken (g ∷ gs) v h =
      let own : List ℕ = nodes_of (filter (is_taken g x ps) ps) in
      list_any-append (nat_eq v) own (taken gs)
      ∙ or_elim (is_replica g x ps v) (is_replica_of_any gs x ps v) h
      (λ here. or_left (has own v) (has (taken gs) v) (replica_taken g x ps v here))
      (λ later. or_right (has own v) (has (taken gs) v) (any_taken gs v later))

  own_few : (g : Group) → length (nodes_of (filter (is_taken g x ps) ps)) ≤ g.rf
  own_few g = omega (arith, length-map (filter (is_taken g x ps) ps) (λ (p : Pair). p.node), taken_few g x ps ring)

  placed_taken : (gs : List Group) → length (place gs x ps) ≤ length (taken gs)
  placed_taken gs =
      length-le_from_is_member nat_eq_equiv (place gs x ps) (taken gs) (ascend_distinct (place gs x ps) (place_ascends gs x ps)) (λ v m. any_taken gs v (sym (has_placed gs x ps v) ∙ m))

  factors_few : (nodes : List NodeRow) (factors : List (List ℕ × ℕ)) → length (taken (map (datacenter_group nodes) factors)) ≤ sum_of_factors factors
  factors_few nodes [] = omega arith
  factors_few nodes (f ∷ fs) =
      let g : Group = datacenter_group nodes f in
      let rest : List ℕ = taken (map (datacenter_group nodes) fs) in
      omega (arith, length-append (nodes_of (filter (is_taken g x ps) ps)) rest, own_few g, factors_few nodes fs, sum_by-cons (λ (row : List ℕ × ℕ). row.1) f fs)

  -- a placement has no more nodes than the replication asks for
  pub place_few : (nodes : List NodeRow) (r : Replication) → length (place (groups_of nodes r) x ps) ≤ total_of r
  place_few nodes (Simple rf) =
      let g : Group = whole_group rf in
      omega (arith, placed_taken (g ∷ []), own_few g, length-append (nodes_of (filter (is_taken g x ps) ps)) [])
  place_few nodes (Topology factors) = omega (arith, placed_taken (map (datacenter_group nodes) factors), factors_few nodes factors)

  -- ---- in a datacenter

  -- where nodes that pass are replicas of one group alone, they are no more than it asks for
  test_few : (gs : List Group) (g : Group) (test : ℕ → Bool) → ((v : ℕ) → test v ≡ true → is_replica_of_any gs x ps v ≡ true → is_replica g x ps v ≡ true) → length (filter test (place gs x ps)) ≤ g.rf
  test_few gs g test alone =
      let some : List ℕ = filter test (place gs x ps) in
      let most = length-le_from_is_member nat_eq_equiv some (nodes_of (filter (is_taken g x ps) ps)) (ascend_distinct some (IsStrictlySortedBy-filter nat_cmp test (place gs x ps) (place_ascends gs x ps)))
      (λ v m. (let both = and_parts (has (place gs x ps) v) (test v) (sym (has_filter test (place gs x ps) v) ∙ m) in
      replica_taken g x ps v (alone v both.1 (sym (has_placed gs x ps v) ∙ both.0)))) in
      omega (arith, own_few g)

-- a node stands in one datacenter
one_place : (dc other : List ℕ) (o : Option NodeRow) → is_some (rack_within dc o) ≡ true → is_some (rack_within other o) ≡ true → bytes_eq dc other ≡ true
one_place dc other None here there = absurd (false≢true here)
one_place dc other (Some row) here there =
    nat_list_eq_equiv.congr dc row.dc other (nat_list_eq_equiv.symm dc row.dc ∙ of row.dc dc row.rack here) ∙ of row.dc other row.rack there
  where
    of : (a b rack : List ℕ) → is_some (if bytes_eq a b then Some rack else None) ≡ true → bytes_eq a b ≡ true
    of a b rack h = by (bytes_eq a b) h
      where
        by : (t : Bool) → is_some (if t then Some rack else None) ≡ true → t ≡ true
        by true e = refl
        by false e = absurd (false≢true e)

module _ (x : ℤ) (ps : List Pair) (nodes : List NodeRow) where
  -- whether a node stands in a datacenter
  abbrev stands_in : List ℕ → ℕ → Bool
  stands_in dc v = is_some (rack_within dc (row_of nodes v))

  replica_stands : (f : List ℕ × ℕ) (v : ℕ) → is_replica (datacenter_group nodes f) x ps v ≡ true → stands_in f.0 v ≡ true
  replica_stands f v h = (let r = IsReplicaAt-from_replica (datacenter_group nodes f) x ps v h in ap (λ o. is_some o) r.in_rack)

  abbrev in_any : List (List ℕ × ℕ) → ℕ → Bool
  in_any factors v = is_replica_of_any (map (datacenter_group nodes) factors) x ps v

  -- the replicas in a datacenter are those of its group
  abbrev IsAlone : List (List ℕ × ℕ) → List ℕ × ℕ → Type 0
  IsAlone factors f = (v : ℕ) → stands_in f.0 v ≡ true → in_any factors v ≡ true → is_replica (datacenter_group nodes f) x ps v ≡ true

  -- none of another's
  elsewhere : (dc : List ℕ) (factors : List (List ℕ × ℕ)) → AllByRecursion (λ e. bytes_eq dc e.0 ≡ false) factors → (v : ℕ) → stands_in dc v ≡ true → in_any factors v ≡ true → false ≡ true
  elsewhere dc [] apart v here any = any
  elsewhere dc (e ∷ es) apart v here any =
      or_elim (is_replica (datacenter_group nodes e) x ps v) (in_any es v) any
      (λ there. sym apart.0 ∙ one_place dc e.0 (row_of nodes v) here (replica_stands e v there))
      (elsewhere dc es apart.1 v here)

  names_apart : (f : List ℕ × ℕ) (fs : List (List ℕ × ℕ)) → IsStrictlySortedBy by_datacenter (f ∷ fs) → AllByRecursion (λ e. bytes_eq f.0 e.0 ≡ false) fs
  names_apart f fs up =
      weaker (λ e. by_datacenter f e ≡ Less) (λ e. bytes_eq f.0 e.0 ≡ false) (λ e less. sym (eq_by_name f e) ∙ ap (λ o. is_eq o) less) fs (sorted_head by_datacenter f fs up)

  pub alone : (factors : List (List ℕ × ℕ)) → IsStrictlySortedBy by_datacenter factors → AllByRecursion (IsAlone factors) factors
  alone [] up = tt
  alone (f ∷ fs) up = (
    λ v here any. or_elim (is_replica (datacenter_group nodes f) x ps v) (in_any fs v) any (λ own. own) (λ other. absurd (false≢true (elsewhere f.0 fs apart v here other))),
    others fs apart (alone fs (sorted_tail by_datacenter f fs up)),
  )
    where
      apart : AllByRecursion (λ e. bytes_eq f.0 e.0 ≡ false) fs
      apart = names_apart f fs up

      others : (es : List (List ℕ × ℕ)) → AllByRecursion (λ e. bytes_eq f.0 e.0 ≡ false) es → AllByRecursion (IsAlone fs) es → AllByRecursion (IsAlone (f ∷ fs)) es
      others [] far all = tt
      others (e ∷ es) far all = (
        λ v here any. or_elim (is_replica (datacenter_group nodes f) x ps v) (in_any fs v) any
            (λ first. absurd (false≢true (sym far.0 ∙ one_place f.0 e.0 (row_of nodes v) (replica_stands f v first) here)))
            (all.0 v here),
        others es far.1 all.1,
      )

-- in each datacenter a placement has no more nodes than its factor
pub datacenter_few : (x : ℤ) (ps : List Pair) → IsRing ps → (nodes : List NodeRow) (factors : List (List ℕ × ℕ)) → IsStrictlySortedBy by_datacenter factors
    → AllByRecursion (λ f. length (filter (λ v. is_some (rack_within f.0 (row_of nodes v))) (place (groups_of nodes (Topology factors)) x ps)) ≤ f.1) factors
datacenter_few x ps ring nodes factors up =
    weaker (IsAlone x ps nodes factors) (λ f. length (filter (λ v. is_some (rack_within f.0 (row_of nodes v))) (place (groups_of nodes (Topology factors)) x ps)) ≤ f.1)
    (λ f own. test_few x ps ring (map (datacenter_group nodes) factors) (datacenter_group nodes f) (λ v. is_some (rack_within f.0 (row_of nodes v))) own)
    factors (alone x ps nodes factors up)
