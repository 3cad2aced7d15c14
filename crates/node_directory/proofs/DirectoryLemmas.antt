-- Rows that make a directory.
use Rattle.std.proofs.Common.{◌≡◌, ℕ, ◌+◌, ◌<◌, ◌≤◌, false, true, not, ◌&&◌, ◌||◌, List, [], ◌∷◌, IsTrue, refl, ap, ◌∙◌, arith}
use Rattle.std.proofs.lemmas.Bool.Decides.{nat_tests}
use Rattle.std.proofs.lemmas.Map.Keys.{IsDistinct-head, IsDistinct-tail, sorted_from_strictly_increasing, sorted_head, sorted_tail}
use Rattle.std.specs.List.{AllByRecursion, IsDistinct}
use Rattle.std.specs.List.Sorted.{IsStrictlyIncreasing, IsStrictlySortedBy}
use Rattle.std.specs.Ordering.{nat_cmp}
use Rattle.std.specs.Set.{is_member}
use Rattle.std.specs.Str.{bytes_eq}
use Rattle.std.specs.declared.cmp.Ordering.TheVariants.{Less}
use Rattle.cluster_terms.specs.declared.node.NodeRow.{NodeRow}
use Rattle.node_directory.proofs.NodeRows.{ascending_cons, directory_from}
use Rattle.node_directory.specs.Directory.{are_ascending, names_are_distinct, ids_of, is_directory, node_names}

-- ---- names

not_among : (n : List ℕ) (ns : List (List ℕ)) → AllByRecursion (λ m. bytes_eq n m ≡ false) ns → is_member bytes_eq ns n ≡ false
not_among n [] all = refl
not_among n (m ∷ ns) all = ap (λ b. b || is_member bytes_eq ns n) all.0 ∙ not_among n ns all.1

names_distinct : (ns : List (List ℕ)) → IsDistinct bytes_eq ns → names_are_distinct ns ≡ true
names_distinct [] d = refl
names_distinct (n ∷ ns) d =
    (λ i. not (not_among n ns (IsDistinct-head bytes_eq n ns d) i) && names_are_distinct ns) ∙ names_distinct ns (IsDistinct-tail bytes_eq n ns d)

-- ---- ids

above : (id next : ℕ) (rows : List NodeRow) → AllByRecursion (λ n. nat_cmp id n ≡ Less) (ids_of rows) → AllByRecursion (λ row. (1 ≤ row.id) × (row.id < next)) rows
    → AllByRecursion (λ row. (id + 1 ≤ row.id) × (row.id < next)) rows
above id next [] less all = tt
above id next (row ∷ rows) less all = ((grind (arith, nat_tests, less.0), all.0.1), above id next rows less.1 all.1)

ids_ascend : (least next : ℕ) (rows : List NodeRow) → IsStrictlySortedBy nat_cmp (ids_of rows) → AllByRecursion (λ row. (least ≤ row.id) × (row.id < next)) rows
    → AllByRecursion (λ row. (1 ≤ row.id) × (row.id < next)) rows → are_ascending least (ids_of rows) next ≡ true
ids_ascend least next [] sorted within all = refl
ids_ascend least next (row ∷ rows) sorted within all =
    ascending_cons least row.id (ids_of rows) next within.0.0 within.0.1
    (ids_ascend (row.id + 1) next rows (sorted_tail nat_cmp row.id (ids_of rows) sorted) (above row.id next rows (sorted_head nat_cmp row.id (ids_of rows) sorted) all.1) all.1)

-- rows whose ids ascend from 1 or more up to the next one, and of whose names none comes twice
pub directory_rows : (rows : List NodeRow) (next : ℕ) → IsStrictlyIncreasing (ids_of rows) → AllByRecursion (λ row. (1 ≤ row.id) × (row.id < next)) rows → IsDistinct bytes_eq (node_names rows)
    → IsTrue (is_directory 1 rows next)
directory_rows rows next up within distinct =
    directory_from 1 rows next (ids_ascend 1 next rows (sorted_from_strictly_increasing (ids_of rows) up) within within) (names_distinct (node_names rows) distinct)
