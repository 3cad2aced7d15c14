-- Rows of a topology replication in the order of their names.
use Rattle.std.proofs.Common.{◌≡◌, ℕ, ◌*◌, ◌≤◌, ◌<◌, true, false, List, [], ◌∷◌, length, suc, drop, get_or, ◌+◌, ◌-◌, subst, refl, sym, ◌∙◌, ap, arith}
use Rattle.std.specs.Cmp.{IsTotalOrder}
use Rattle.std.specs.List.{All}
use Rattle.std.specs.Ordering.{nat_cmp, eq_by_cmp, is_eq}
use Rattle.std.specs.Set.{is_member, distinct_count}
use Rattle.std.specs.Str.{bytes_eq}
use Rattle.std.proofs.lemmas.Bool.Decides.{nat_tests}
use Rattle.std.proofs.lemmas.Cmp.{on_total, nat_list_cmp_total, same_from_slice_cmp}
use Rattle.std.proofs.lemmas.List.Sums.{sum_by-cons}
use Rattle.std.proofs.lemmas.Map.Made.{distinct_count-le}
use Rattle.std.proofs.lemmas.List.{drop_more}
use Rattle.std.proofs.lemmas.List.Elements.{All-cons, All-head, All-tail, All-from_recursion, recursion_from_All}
use Rattle.cluster_terms.specs.Ascending.{put, put_all, ascending}
use Rattle.cluster_terms.specs.Factors.{IsFactorRow, IsFactors, by_datacenter, names_of, are_factors, sum_of_factors}
use Rattle.cluster_terms.proofs.lists.AscendingLemmas.{ascending_sorted, length-ascending, All-put_all}
use Rattle.cluster_terms.proofs.lists.Put.{put_all_from}

-- the order of names is total
pub by_name_total : IsTotalOrder by_datacenter
by_name_total = on_total (λ (row : List ℕ × ℕ). row.0) nat_list_cmp_total

-- rows are equal in the order where their names are the same bytes
pub eq_by_name : (a b : List ℕ × ℕ) → eq_by_cmp by_datacenter a b ≡ bytes_eq a.0 b.0
eq_by_name a b =
    same_from_slice_cmp nat_cmp is_eq bytes_eq refl (λ _ _. refl) (λ _ _. refl) (λ x y xs ys o h. grind (arith, nat_tests)) a.0 b.0 (by_datacenter a b) refl

member_by_name : (rows : List (List ℕ × ℕ)) (row : List ℕ × ℕ) → is_member (eq_by_cmp by_datacenter) rows row ≡ is_member bytes_eq (names_of rows) row.0
member_by_name [] row = refl
member_by_name (first ∷ rows) row = (let here = eq_by_name row first in let rest = member_by_name rows row in grind arith)

-- as many rows differ in the order as there are names
pub count_by_name : (rows : List (List ℕ × ℕ)) → distinct_count (eq_by_cmp by_datacenter) rows ≡ distinct_count bytes_eq (names_of rows)
count_by_name [] = refl
count_by_name (row ∷ rows) = (let here = member_by_name rows row in let rest = count_by_name rows in grind arith)

-- in the order of names stand as many rows as there are names
pub length-by_name : (rows : List (List ℕ × ℕ)) → length (ascending by_datacenter rows) ≡ distinct_count bytes_eq (names_of rows)
length-by_name rows = length-ascending by_datacenter by_name_total rows ∙ count_by_name rows

-- there are as many names as rows
pub names_length : (rows : List (List ℕ × ℕ)) → length (names_of rows) ≡ length rows
names_length [] = refl
names_length (row ∷ rows) = ap suc (names_length rows)

-- 1 to 16 rows of different names, in the order of these, are factors
pub factors_in_order : (rows : List (List ℕ × ℕ)) → 1 ≤ length rows → length rows ≤ 16 → length rows ≤ length (ascending by_datacenter rows) → All IsFactorRow rows → IsFactors (ascending by_datacenter rows)
factors_in_order rows some few all valid = record {
  some = omega arith;
  few = omega (arith, length-by_name rows, distinct_count-le bytes_eq (names_of rows), names_length rows);
  ascending = ascending_sorted by_datacenter by_name_total rows;
  valid = All-from_recursion IsFactorRow (ascending by_datacenter rows) (All-put_all by_datacenter IsFactorRow rows [] (recursion_from_All IsFactorRow rows valid) tt);
}

-- a factor is from 1 to 16, and a sum of factors from their count to 16 times it
pub sum_bounds : (rows : List (List ℕ × ℕ)) → All IsFactorRow rows → (length rows ≤ sum_of_factors rows) × (sum_of_factors rows ≤ 16 * length rows)
sum_bounds [] valid = (omega arith, omega arith)
sum_bounds (row ∷ rows) valid =
    let here : IsFactorRow row = All-head IsFactorRow row rows valid in
    let rest = sum_bounds rows (All-tail IsFactorRow row rows valid) in
    let sum : sum_of_factors (row ∷ rows) ≡ row.1 + sum_of_factors rows = sum_by-cons (λ (each : List ℕ × ℕ). each.1) row rows in
    let low : 1 ≤ row.1 = here.factor.0 in
    let high : row.1 ≤ 16 = here.factor.1 in
    (omega arith, omega arith)

pub total_bounds : (rows : List (List ℕ × ℕ)) → IsFactors rows → (1 ≤ sum_of_factors rows) × (sum_of_factors rows ≤ 256)
total_bounds rows factors = (let bounds = sum_bounds rows factors.valid in (omega (arith, factors.some), omega (arith, factors.few)))

-- a copy of the row before a place is put into what the rows from there on have made
pub put_less : (rows : List (List ℕ × ℕ)) (i : ℕ) (row copied : List ℕ × ℕ) (list new : List (List ℕ × ℕ)) → 0 < i → i ≤ length rows → row ≡ get_or rows (i - 1) row
    → list ≡ put_all by_datacenter (drop i rows) [] → copied ≡ row → new ≡ put by_datacenter copied list → new ≡ put_all by_datacenter (drop (i - 1) rows) []
put_less rows i row copied list new some within at made same is =
    is ∙ (λ k. put by_datacenter (same k) (made k)) ∙ put_all_from by_datacenter rows i row [] some within at

-- what holds from a place on, and of the row before it, holds from there on
pub valid_less : (rows : List (List ℕ × ℕ)) (i : ℕ) (row : List ℕ × ℕ) → 0 < i → i ≤ length rows → row ≡ get_or rows (i - 1) row → IsFactorRow row → All IsFactorRow (drop i rows) → All IsFactorRow (drop (i - 1) rows)
valid_less rows i row some within at here rest =
    let n : i - 1 + 1 ≡ i = omega arith in
    let split : drop (i - 1) rows ≡ get_or rows (i - 1) row ∷ drop (i - 1 + 1) rows = drop_more rows (i - 1) row (omega arith) in
    let is : drop (i - 1) rows ≡ row ∷ drop i rows = cc in
    subst (All IsFactorRow) (sym is) (All-cons IsFactorRow row (drop i rows) here rest)

-- rows are factors where there are 1 to 16 and all of them stand in the order of names
pub are_factors-all : (rows : List (List ℕ × ℕ)) → 1 ≤ length rows → length rows ≤ 16 → length rows ≤ length (ascending by_datacenter rows) → are_factors rows ≡ true
are_factors-all rows some few all =
    let count = length-by_name rows in
    let most = distinct_count-le bytes_eq (names_of rows) in
    let names = names_length rows in
    grind (arith, nat_tests)

-- and they are none where fewer of them do
pub are_factors-fewer : (rows : List (List ℕ × ℕ)) → length (ascending by_datacenter rows) < length rows → are_factors rows ≡ false
are_factors-fewer rows fewer = (let count = length-by_name rows in grind (arith, nat_tests))
