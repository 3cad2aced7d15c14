-- Binary searches in rows of nodes whose ids ascend.
use Rattle.std.proofs.Common.{◌≡◌, ℕ, ◌<◌, ◌≤◌, true, false, nat_lt, ◌==◌, List, [], get_or, length, map, Some, None, sym, ap, ◌∙◌, ◌⊎◌, inl, inr, arith}
use Rattle.std.proofs.lemmas.Bool.{cases_lt}
use Rattle.std.proofs.lemmas.Bool.Decides.{nat_tests}
use Rattle.std.proofs.lemmas.List.{get_or-map, length-map}
use Rattle.std.proofs.lemmas.Map.Keys.{below_from_sorted, sorted_from_strictly_increasing}
use Rattle.std.specs.List.Sorted.{IsPartitionPoint, IsPartitionedBy, IsStrictlyIncreasing}
use Rattle.cluster_terms.specs.NodeRow.{row_of}
use Rattle.cluster_terms.specs.declared.node.NodeRow.{NodeRow}
use Rattle.transformations.proofs.images.FirstBadLemmas.{find_first, find_nowhere}

abbrev pub ids : List NodeRow → List ℕ
ids nodes = map (λ row. row.id) nodes

-- the ids at two positions are in the order of the positions
pub id-lt : (nodes : List NodeRow) → IsStrictlyIncreasing (ids nodes) → (i j : ℕ) (d : NodeRow) → i < j → j < length nodes → (get_or nodes i d).id < (get_or nodes j d).id
id-lt nodes up i j d lt in_j =
    let long : length (ids nodes) ≡ length nodes = length-map nodes (λ (row : NodeRow). row.id) in
    let less : get_or (ids nodes) i d.id < get_or (ids nodes) j d.id = below_from_sorted (ids nodes) i j d.id (sorted_from_strictly_increasing (ids nodes) up) lt (omega arith) in
    let one : get_or (ids nodes) i d.id ≡ (get_or nodes i d).id = get_or-map (λ (row : NodeRow). row.id) nodes i d d.id (omega arith) in
    let two : get_or (ids nodes) j d.id ≡ (get_or nodes j d).id = get_or-map (λ (row : NodeRow). row.id) nodes j d d.id in_j in
    omega arith

-- the rows below id n stand before the others
pub ids_below_first : (nodes : List NodeRow) (n : ℕ) → IsStrictlyIncreasing (ids nodes) → IsPartitionedBy (λ row. nat_lt row.id n) nodes
ids_below_first nodes n up i j d le in_j low = by (cases_lt i j)
  where
    by : (i < j) ⊎ (j ≤ i) → nat_lt (get_or nodes i d).id n ≡ true
    by (inl lt) = let l = id-lt nodes up i j d lt in_j in grind (arith, nat_tests, low, l)
    by (inr ge) = let same : i ≡ j = omega arith in rw same low

pub ids_split : (nodes : List NodeRow) (n at : ℕ) → IsPartitionPoint (λ row. nat_lt row.id n ≡ true) (λ row. nat_lt row.id n ≡ false) nodes at → IsPartitionPoint (λ row. row.id < n) (λ row. n ≤ row.id) nodes at
ids_split nodes n at split =
    (λ k d zero lt. let low = split.0 k d zero lt in grind (arith, nat_tests, low), λ k d le lt. let high = split.1 k d le lt in grind (arith, nat_tests, high))

-- a node's row is the first one whose id isn't below the node's
pub row_found : (nodes : List NodeRow) (n at : ℕ) (row : NodeRow) → IsPartitionPoint (λ row. row.id < n) (λ row. n ≤ row.id) nodes at → at < length nodes → row ≡ get_or nodes at row → (row.id == n) ≡ true → Some row ≡ row_of nodes n
row_found nodes n at row split in_at is same =
    let found : row_of nodes n ≡ Some (get_or nodes at row) =
    find_first (λ (row : NodeRow). row.id == n) nodes at row in_at
    (λ i lt. let l = split.0 i row (omega arith) lt in grind (arith, nat_tests, l)) (rw (← is) same) in
    ap Some is ∙ sym found

pub row_missing : (nodes : List NodeRow) (n at : ℕ) (row : NodeRow) → IsStrictlyIncreasing (ids nodes) → IsPartitionPoint (λ row. row.id < n) (λ row. n ≤ row.id) nodes at → at < length nodes → row ≡ get_or nodes at row → (row.id == n) ≡ false → None ≡ row_of nodes n
row_missing nodes n at row up split in_at is other = sym (find_nowhere (λ (row : NodeRow). row.id == n) nodes row each)
  where
    here : ((get_or nodes at row).id == n) ≡ false
    here = rw (← is) other

    each : (i : ℕ) → i < length nodes → ((get_or nodes i row).id == n) ≡ false
    each i in_i = by (cases_lt i at)
      where
        past : (at < i) ⊎ (i ≤ at) → at ≤ i → ((get_or nodes i row).id == n) ≡ false
        past (inl lt) le =
            let l = id-lt nodes up at i row lt in_i in
            let m = split.1 at row (omega arith) in_at in
            grind (arith, nat_tests, l, m)
        past (inr ge) le =
            let same : i ≡ at = omega arith in
            rw same here

        by : (i < at) ⊎ (at ≤ i) → ((get_or nodes i row).id == n) ≡ false
        by (inl lt) = let l = split.0 i row (omega arith) lt in grind (arith, nat_tests, l)
        by (inr le) = past (cases_lt at i) le

-- all ids are below the node's
some_row : NodeRow
some_row = record { id = 0; name = []; dc = []; rack = []; left = false }

pub row_past : (nodes : List NodeRow) (n at : ℕ) → IsPartitionPoint (λ row. row.id < n) (λ row. n ≤ row.id) nodes at → length nodes ≤ at → None ≡ row_of nodes n
row_past nodes n at split past =
    sym (find_nowhere (λ (row : NodeRow). row.id == n) nodes some_row
    (λ i in_i. let l = split.0 i some_row (omega arith) (omega arith) in grind (arith, nat_tests, l)))
