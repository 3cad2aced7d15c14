-- Where a search among rows in order of id ends.
use Rattle.std.proofs.Common.{◌≡◌, ◌≢◌, ℕ, suc, zero, ◌+◌, ◌<◌, ◌≤◌, true, false, ◌==◌, List, [], ◌∷◌, length, get_or, set, remove, slice_get, HoldsAt, IsTrue, None, Some, Result, Ok, Err, refl, sym, ap, ◌∙◌, inl, inr, arith}
use Rattle.std.specs.List.Sorted.{IsSearchInRange, IsBinarySearchResult, IsNonDecreasingBy}
use Rattle.std.specs.Map.{values_of}
use Rattle.std.specs.Ordering.{nat_cmp, ordering_index}
use Rattle.std.specs.Result.{result_ok}
use Rattle.std.specs.declared.string.String.{String}
use Rattle.std.proofs.lemmas.Bool.{cases_lt}
use Rattle.std.proofs.lemmas.Bool.Decides.{nat_tests}
use Rattle.std.proofs.lemmas.Cmp.{ranked}
use Rattle.std.proofs.lemmas.Option.{slice_get-get_or, get_or_from_slice_get}
use Rattle.std.proofs.lemmas.Map.Entries.{length-values_of}
use Rattle.cluster_terms.specs.NodeRow.{row_of}
use Rattle.cluster_terms.specs.declared.node.NodeRow.{NodeRow}
use Rattle.node_directory.specs.Directory.{are_ascending, ids_of, is_directory, other_rows, marked_left}
use Rattle.node_directory.specs.code.StoredRows.{IsPlace, IsPlaceOf}
use Rattle.node_directory.proofs.NodeRows.{ascends, id_at, ids-ascend, row_of-at, other_rows-at, marked_left-at}

-- the ids at two places are in the order of the places
id-le : (least : ℕ) (rows : List NodeRow) (next : ℕ) → are_ascending least (ids_of rows) next ≡ true → (i j : ℕ) (d : NodeRow) → i ≤ j → j < length rows → (get_or rows i d).id ≤ (get_or rows j d).id
id-le least [] next h i j d le lt = absurd (omega arith)
id-le least (row ∷ rows) next h zero zero d le lt = omega arith
id-le least (row ∷ rows) next h (suc i) zero d le lt = absurd (omega arith)
id-le least (row ∷ rows) next h zero (suc j) d le lt =
    let a = ascends least row.id (ids_of rows) next h in
    let later = id_at (row.id + 1) rows next a.rest j d (omega arith) in
    omega (arith, later.0)
id-le least (row ∷ rows) next h (suc i) (suc j) d le lt =
    let a = ascends least row.id (ids_of rows) next h in id-le (row.id + 1) rows next a.rest i j d (omega arith) (omega arith)

-- a node that no row has is not registered
row_of-absent : (rows : List NodeRow) (n : ℕ) → ((k : ℕ) (d : NodeRow) → k < length rows → (get_or rows k d).id ≢ n) → row_of rows n ≡ None
row_of-absent [] n absent = refl
row_of-absent (row ∷ rows) n absent =
    let here : row.id ≢ n = absent 0 row (omega arith) in
    let apart : (row.id == n) ≡ false = grind (arith, nat_tests) in
    rw apart (row_of-absent rows n (λ k d lt. absent (suc k) d (omega arith)))

index-le : (m k n : ℕ) → m ≤ k → ordering_index (nat_cmp m n) ≤ ordering_index (nat_cmp k n)
index-le m k n le = grind (arith, nat_tests)

-- the place of a row with the id of a node
pub place-from_id : (least : ℕ) (rows : List NodeRow) (next n at : ℕ) → are_ascending least (ids_of rows) next ≡ true → at < length rows → HoldsAt (λ row. row.id ≡ n) rows at → IsPlace rows n at
place-from_id least [] next n at h lt id = absurd (omega arith)
place-from_id least (row ∷ rows) next n at h lt id =
    record { in_range = lt; row = slice_get-get_or (row ∷ rows) at row lt ∙ sym (row_of-at least (row ∷ rows) next h at row lt) ∙ ap (row_of (row ∷ rows)) (id row); id = id }

-- where the row of a node stands, the other rows are those at the other places
pub other_rows-place : (rows : List NodeRow) (next n at : ℕ) → IsTrue (is_directory 0 rows next) → IsPlace rows n at → other_rows rows n ≡ remove rows at
other_rows-place [] next n at h place = absurd (omega (arith, place.in_range))
other_rows-place (row ∷ rows) next n at h place =
    ap (other_rows (row ∷ rows)) (sym (place.id row)) ∙ other_rows-at 0 (row ∷ rows) next (ids-ascend 0 (row ∷ rows) next h) at row place.in_range

-- and a mark is set there
pub marked_left-place : (rows : List NodeRow) (next n at : ℕ) (row : NodeRow) → IsTrue (is_directory 0 rows next) → IsPlace rows n at → slice_get rows at ≡ Some row → marked_left rows n ≡ set rows at (record row { left = true })
marked_left-place rows next n at row h place here =
    let same : get_or rows at row ≡ row = get_or_from_slice_get rows at row row here in
    ap (marked_left rows) (sym (place.id row)) ∙ marked_left-at 0 rows next (ids-ascend 0 rows next h) at row place.in_range ∙ ap (λ (r : NodeRow). set rows at (record r { left = true })) same

module _ {Y : Type 0} where
  get_or-values : (es : List (String Y × NodeRow)) (i : ℕ) (d : NodeRow) (e : String Y × NodeRow) → i < length es → get_or (values_of es) i d ≡ (get_or es i e).1
  get_or-values [] i d e lt = absurd (omega arith)
  get_or-values (f ∷ es) zero d e lt = refl
  get_or-values (f ∷ es) (suc i) d e lt = get_or-values es i d e (omega arith)

  rising : (es : List (String Y × NodeRow)) (next n : ℕ) → are_ascending 0 (ids_of (values_of es)) next ≡ true → IsNonDecreasingBy (λ e. ordering_index (nat_cmp e.1.id n)) es
  rising es next n h i j e le lt =
      let long = length-values_of es in
      let ids = id-le 0 (values_of es) next h i j e.1 le (omega (arith, long)) in
      let at_i = get_or-values es i e.1 e (omega arith) in
      let at_j = get_or-values es j e.1 e lt in
      index-le (get_or es i e).1.id (get_or es j e).1.id n (rw (at_i, at_j) at ids)

  -- a binary search by id ends at the row of the node, or says that there is none
  pub searched : (es : List (String Y × NodeRow)) (next n : ℕ) → are_ascending 0 (ids_of (values_of es)) next ≡ true → (r : Result ℕ ℕ) → IsSearchInRange r (length es) → IsBinarySearchResult (λ e. nat_cmp e.1.id n) es r → IsPlaceOf (values_of es) n (result_ok r)
  searched [] next n h (Ok at) in_range equal = absurd (omega arith)
  searched [] next n h (Err at) in_range parted = refl
  searched (e ∷ es) next n h (Ok at) in_range equal =
      place-from_id 0 (values_of (e ∷ es)) next n at h (omega (arith, length-values_of (e ∷ es))) (λ d. ap (λ (row : NodeRow). row.id) (get_or-values (e ∷ es) at d e in_range) ∙ ranked _ n _ (sym (equal e)))
  searched (e ∷ es) next n h (Err at) in_range parted = row_of-absent (values_of (e ∷ es)) n absent
    where
      absent : (k : ℕ) (d : NodeRow) → k < length (values_of (e ∷ es)) → (get_or (values_of (e ∷ es)) k d).id ≢ n
      absent k d lt same =
          let long = length-values_of (e ∷ es) in
          let row = get_or-values (e ∷ es) k d e (omega (arith, long)) in
          let id : (get_or (e ∷ es) k e).1.id ≡ n = sym (ap (λ (r : NodeRow). r.id) row) ∙ same in
          let parts = parted (rising (e ∷ es) next n h) in
          elim (cases_lt k at) [
            | inl before ↦ let less : (get_or (e ∷ es) k e).1.id < n = ranked _ n _ (sym (parts.0 k e (omega arith) before)) in omega (arith, less, id)
            | inr after ↦ let more : n < (get_or (e ∷ es) k e).1.id = ranked _ n _ (sym (parts.1 k e after (omega (arith, long)))) in omega (arith, more, id)
          ]
