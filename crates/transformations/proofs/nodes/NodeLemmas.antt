-- The nodes of a cluster, with one more and with one less.
use Rattle.std.proofs.Common.{◌≡◌, ℕ, ◌+◌, ◌<◌, ◌≤◌, Bool, true, false, cond, not, true≢false, ◌==◌, List, [], ◌∷◌, ◌++◌, map, filter, length, Option, Some, None, if◌then◌else◌, refl, sym, ap, ◌∙◌, arith, length-append}
use Rattle.std.proofs.lemmas.Bool.Decides.{nat_tests}
use Rattle.std.proofs.lemmas.List.{length-map, map-append}
use Rattle.std.proofs.lemmas.List.Folds.{find-append}
use Rattle.std.proofs.lemmas.Map.Keys.{IsDistinct-push, IsStrictlyIncreasing-from_sorted, sorted_from_strictly_increasing}
use Rattle.std.specs.Cmp.Lexicographic.{nat_list_eq_equiv}
use Rattle.std.specs.List.{AllByRecursion}
use Rattle.std.specs.List.Sorted.{IsStrictlySortedBy}
use Rattle.std.specs.Option.{option_or}
use Rattle.std.specs.Ordering.{nat_cmp}
use Rattle.std.specs.Str.{bytes_eq}
use Rattle.std.specs.declared.cmp.Ordering.TheVariants.{Less}
use Rattle.cluster_terms.specs.Group.{Group}
use Rattle.cluster_terms.specs.NodeRow.{marked, row_of}
use Rattle.cluster_terms.specs.Replication.{groups_of, rack_within}
use Rattle.cluster_terms.specs.declared.replication.Replication.{Replication}
use Rattle.cluster_terms.specs.declared.replication.Replication.TheVariants.{Simple, Topology}
use Rattle.cluster_terms.specs.declared.node.NodeRow.{NodeRow}
use Rattle.transformations.proofs.lists.ListLemmas.{IsPart, all_append, all_map, all_weaker, any_false, part_all_of, part_distinct, part_filter, part_length, part_map, part_sorted}
use Rattle.transformations.specs.Refusals.{most_nodes}
use Rattle.transformations.specs.Movements.{with_left}
use Rattle.transformations.specs.Valid.{AreNodes, is_standing, stands}

-- ---- one more

sorted_push : (xs : List ℕ) (y : ℕ) → IsStrictlySortedBy nat_cmp xs → AllByRecursion (λ x. x < y) xs → IsStrictlySortedBy nat_cmp (xs ++ y ∷ [])
unfolding IsStrictlySortedBy
sorted_push [] y up below = (tt, tt)
sorted_push (x ∷ xs) y up below = (all_append (λ z. nat_cmp x z ≡ Less) xs (y ∷ []) up.0 (less x y below.0, tt), sorted_push xs y up.1 below.1)
  where
    less : (x y : ℕ) → x < y → nat_cmp x y ≡ Less
    less x y lt = grind (arith, nat_tests)

pub nodes_push : (nodes : List NodeRow) (next : ℕ) (row : NodeRow) → row.id ≡ next → 1 ≤ next → length nodes < most_nodes
    → AllByRecursion (λ (r : NodeRow). bytes_eq r.name row.name ≡ false) nodes → AreNodes nodes next → AreNodes (nodes ++ row ∷ []) (next + 1)
nodes_push nodes next row is some below_limit free h =
    let ids : map (λ (r : NodeRow). r.id) (nodes ++ row ∷ []) ≡ map (λ (r : NodeRow). r.id) nodes ++ row.id ∷ [] = map-append (λ (r : NodeRow). r.id) nodes (row ∷ []) in
    let names : map (λ (r : NodeRow). r.name) (nodes ++ row ∷ []) ≡ map (λ (r : NodeRow). r.name) nodes ++ row.name ∷ [] = map-append (λ (r : NodeRow). r.name) nodes (row ∷ []) in
    let below : AllByRecursion (λ x. x < row.id) (map (λ (r : NodeRow). r.id) nodes) =
    all_map (λ x. x < row.id) (λ (r : NodeRow). r.id) nodes
    (all_weaker (λ (r : NodeRow). (1 ≤ r.id) × (r.id < next)) (λ (r : NodeRow). r.id < row.id) (λ r w. let lt = w.1 in omega arith) nodes h.within) in
    let up : IsStrictlySortedBy nat_cmp (map (λ (r : NodeRow). r.id) nodes ++ row.id ∷ []) =
    sorted_push (map (λ (r : NodeRow). r.id) nodes) row.id (sorted_from_strictly_increasing (map (λ (r : NodeRow). r.id) nodes) h.ascending) below in
    let new : AllByRecursion (λ name. bytes_eq row.name name ≡ false) (map (λ (r : NodeRow). r.name) nodes) =
    all_map (λ name. bytes_eq row.name name ≡ false) (λ (r : NodeRow). r.name) nodes
    (all_weaker (λ (r : NodeRow). bytes_eq r.name row.name ≡ false) (λ (r : NodeRow). bytes_eq row.name r.name ≡ false) (λ r e. nat_list_eq_equiv.symm row.name r.name ∙ e) nodes free) in
    record {
      few = omega (arith, length-append nodes (row ∷ []));
      ascending = IsStrictlyIncreasing-from_sorted (map (λ (r : NodeRow). r.id) (nodes ++ row ∷ [])) (rw ids up);
      within = all_append (λ (r : NodeRow). (1 ≤ r.id) × (r.id < next + 1)) nodes (row ∷ [])
          (all_weaker (λ (r : NodeRow). (1 ≤ r.id) × (r.id < next)) (λ (r : NodeRow). (1 ≤ r.id) × (r.id < next + 1)) (λ r w. let lt = w.1 in (w.0, omega arith)) nodes h.within)
          ((omega arith, omega arith), tt);
      distinct = rw names (IsDistinct-push nat_list_eq_equiv (map (λ (r : NodeRow). r.name) nodes) row.name h.distinct
          (any_false (λ name. bytes_eq row.name name) (map (λ (r : NodeRow). r.name) nodes) new));
    }

-- a node that stands goes on standing
pub standing_push : (nodes more : List NodeRow) (n : ℕ) → is_standing nodes n ≡ true → is_standing (nodes ++ more) n ≡ true
standing_push nodes more n h = ap stands (find-append (λ (row : NodeRow). row.id == n) nodes more) ∙ by (row_of nodes n) (row_of more n) h
  where
    by : (o p : Option NodeRow) → stands o ≡ true → stands (option_or o p) ≡ true
    by None p h = absurd (true≢false (sym h))
    by (Some row) p h = h

pub row_push : (nodes more : List NodeRow) (n : ℕ) → is_standing nodes n ≡ true → row_of nodes n ≡ row_of (nodes ++ more) n
row_push nodes more n h = sym (find-append (λ (row : NodeRow). row.id == n) nodes more ∙ by (row_of nodes n) h)
  where
    by : (o : Option NodeRow) → stands o ≡ true → option_or o (row_of more n) ≡ o
    by None h = absurd (true≢false (sym h))
    by (Some row) h = refl

-- ---- one less

abbrev without : List NodeRow → ℕ → List NodeRow
without nodes n = filter (λ row. not (row.id == n)) nodes

pub nodes_without : (nodes : List NodeRow) (next n : ℕ) → AreNodes nodes next → AreNodes (without nodes n) next
nodes_without nodes next n h =
    let part : IsPart (without nodes n) nodes = part_filter (λ (row : NodeRow). not (row.id == n)) nodes in
    let length = part_length part in
    let up = part_sorted nat_cmp (part_map (λ (r : NodeRow). r.id) part) (sorted_from_strictly_increasing (map (λ (r : NodeRow). r.id) nodes) h.ascending) in
    record {
      few = omega (arith, h.few);
      ascending = IsStrictlyIncreasing-from_sorted (map (λ (r : NodeRow). r.id) (without nodes n)) up;
      within = part_all_of (λ (r : NodeRow). (1 ≤ r.id) × (r.id < next)) part h.within;
      distinct = part_distinct bytes_eq (part_map (λ (r : NodeRow). r.name) part) h.distinct;
    }

-- the row of another node stays
pub row_without : (nodes : List NodeRow) (n m : ℕ) → (m == n) ≡ false → row_of (without nodes n) m ≡ row_of nodes m
row_without [] n m other = refl
row_without (row ∷ nodes) n m other = by (row.id == n) refl (row_without nodes n m other)
  where
    apart : (a b c : ℕ) → (a == b) ≡ true → (c == b) ≡ false → (a == c) ≡ false
    apart a b c e f = grind (arith, nat_tests)

    by : (b : Bool) → (row.id == n) ≡ b → row_of (without nodes n) m ≡ row_of nodes m
        → row_of (cond (not b) (row ∷ without nodes n) (without nodes n)) m ≡ row_of (row ∷ nodes) m
    by true e rest = rw (apart row.id n m e other) rest
    by false e rest = ap (cond (row.id == m) (Some row)) rest

pub standing_without : (nodes : List NodeRow) (n m : ℕ) → (m == n) ≡ false → is_standing nodes m ≡ true → is_standing (without nodes n) m ≡ true
standing_without nodes n m other h = ap stands (row_without nodes n m other) ∙ h

-- ---- one that has left

module _ (n : ℕ) where
  abbrev gone : NodeRow → NodeRow
  gone row = record row { left = true }

  marked_id : (row : NodeRow) → (marked n row).id ≡ row.id
  marked_id row = by (row.id == n)
    where
      by : (b : Bool) → (let left : NodeRow = record row { left = true } in if b then left else row).id ≡ row.id
      by true = refl
      by false = refl

  marked_name : (row : NodeRow) → (marked n row).name ≡ row.name
  marked_name row = by (row.id == n)
    where
      by : (b : Bool) → (let left : NodeRow = record row { left = true } in if b then left else row).name ≡ row.name
      by true = refl
      by false = refl

  marked_ids : (nodes : List NodeRow) → map (λ (row : NodeRow). row.id) (map (marked n) nodes) ≡ map (λ (row : NodeRow). row.id) nodes
  marked_ids [] = refl
  marked_ids (row ∷ nodes) = λ i. marked_id row i ∷ marked_ids nodes i

  marked_names : (nodes : List NodeRow) → map (λ (row : NodeRow). row.name) (map (marked n) nodes) ≡ map (λ (row : NodeRow). row.name) nodes
  marked_names [] = refl
  marked_names (row ∷ nodes) = λ i. marked_name row i ∷ marked_names nodes i

  pub nodes_marked : (nodes : List NodeRow) (next : ℕ) → AreNodes nodes next → AreNodes (map (marked n) nodes) next
  nodes_marked nodes next h = record {
    few = omega (arith, h.few, length-map nodes (marked n));
    ascending = rw (marked_ids nodes) h.ascending;
    within = all_map (λ (r : NodeRow). (1 ≤ r.id) × (r.id < next)) (marked n) nodes
        (all_weaker (λ (r : NodeRow). (1 ≤ r.id) × (r.id < next)) (λ (r : NodeRow). (1 ≤ (marked n r).id) × ((marked n r).id < next)) (λ r w. rw (marked_id r) w) nodes h.within);
    distinct = rw (marked_names nodes) h.distinct;
  }

  -- the row of another node is as before
  pub row_marked : (nodes : List NodeRow) (m : ℕ) → (m == n) ≡ false → row_of nodes m ≡ row_of (map (marked n) nodes) m
  row_marked [] m other = refl
  row_marked (row ∷ nodes) m other = by (row.id == n) refl (row_marked nodes m other)
    where
      apart : (a : ℕ) → (a == n) ≡ true → (a == m) ≡ false
      apart a e = grind (arith, nat_tests)

      by : (b : Bool) → (row.id == n) ≡ b → row_of nodes m ≡ row_of (map (marked n) nodes) m
          → row_of (row ∷ nodes) m ≡ row_of ((let left : NodeRow = record row { left = true } in if b then left else row) ∷ map (marked n) nodes) m
      by true e rest = rw (apart row.id e) rest
      by false e rest = ap (cond (row.id == m) (Some row)) rest

  -- and each node stays in its datacenter and its rack
  pub rack_marked : (dc : List ℕ) (nodes : List NodeRow) (m : ℕ) → rack_within dc (row_of nodes m) ≡ rack_within dc (row_of (map (marked n) nodes) m)
  rack_marked dc [] m = refl
  rack_marked dc (row ∷ nodes) m = by (row.id == n) (rack_marked dc nodes m)
    where
      split : (other : NodeRow) (c : Bool) → other.dc ≡ row.dc → other.rack ≡ row.rack → rack_within dc (row_of nodes m) ≡ rack_within dc (row_of (map (marked n) nodes) m)
          → rack_within dc (cond c (Some row) (row_of nodes m)) ≡ rack_within dc (cond c (Some other) (row_of (map (marked n) nodes) m))
      split other true place rack rest = λ i. if bytes_eq (sym place i) dc then Some (sym rack i) else None
      split other false place rack rest = rest

      by : (b : Bool) → rack_within dc (row_of nodes m) ≡ rack_within dc (row_of (map (marked n) nodes) m)
          → rack_within dc (row_of (row ∷ nodes) m) ≡ rack_within dc (row_of ((let left : NodeRow = record row { left = true } in if b then left else row) ∷ map (marked n) nodes) m)
      by true rest = split (gone row) (row.id == m) refl refl rest
      by false rest = split row (row.id == m) refl refl rest

-- the node that has left, if there is one
pub nodes_left : (nodes : List NodeRow) (next : ℕ) (o : Option ℕ) → AreNodes nodes next → AreNodes (with_left nodes o) next
nodes_left nodes next None h = h
nodes_left nodes next (Some n) h = nodes_marked n nodes next h

pub groups_left : (nodes : List NodeRow) (o : Option ℕ) (r : Replication) → groups_of nodes r ≡ groups_of (with_left nodes o) r
groups_left nodes None r = refl
groups_left nodes (Some n) (Simple rf) = refl
groups_left nodes (Some n) (Topology factors) = λ i. map (λ f. let g : Group = record { rf = f.1; rack_of = λ m. rack_marked n f.0 nodes m i } in g) factors

pub rack_left : (nodes : List NodeRow) (o : Option ℕ) (dc : List ℕ) (m : ℕ) → rack_within dc (row_of nodes m) ≡ rack_within dc (row_of (with_left nodes o) m)
rack_left nodes None dc m = refl
rack_left nodes (Some n) dc m = rack_marked n dc nodes m
