-- Rows after edits: what one edit more does, and what is left after the first edit.
use Rattle.std.proofs.Common.{◌≡◌, ℕ, zero, suc, ◌+◌, ◌-◌, ◌≤◌, List, [], ◌∷◌, ◌++◌, take, drop, refl, sym, ap, ◌∙◌, append_assoc, arith}
use Rattle.std.specs.Prelude.{Option, Some, None}
use Rattle.std.proofs.Math.Seq.{take-add}
use Rattle.std.proofs.lemmas.List.{append-nil, drop-drop}
use Rattle.range_placements.specs.Editing.{edited_rows, rows_passed, with_first}
use Rattle.range_placements.specs.code.EditCounts.{row_count, rows_added, rows_made}
use Rattle.range_placements.specs.declared.placement_row.PlacementRow.{PlacementRow}
use Rattle.range_placements.specs.declared.row_edits.RowEdit.{RowEdit}

-- ---- the rows of an iterator that are left

-- where a row is left, it is the next one, and where none is left, all are taken
after_taken : (rows : List PlacementRow) (n : ℕ) (row : PlacementRow) (rest : List PlacementRow) → row ∷ rest ≡ drop n rows → take (suc n) rows ≡ take n rows ++ row ∷ []
after_taken [] zero row rest is = cc is
after_taken [] (suc n) row rest is = cc is
after_taken (first ∷ rows) zero row rest is = ap (λ l. take 1 l) (sym is)
after_taken (first ∷ rows) (suc n) row rest is = ap (λ l. first ∷ l) (after_taken rows n row rest is)

after_left : (rows : List PlacementRow) (n : ℕ) (row : PlacementRow) (rest : List PlacementRow) → row ∷ rest ≡ drop n rows → drop (suc n) rows ≡ rest
after_left [] zero row rest is = cc is
after_left [] (suc n) row rest is = cc is
after_left (first ∷ rows) zero row rest is = ap (λ l. drop 1 l) (sym is)
after_left (first ∷ rows) (suc n) row rest is = after_left rows n row rest is

none_more : (rows : List PlacementRow) (n : ℕ) → [] ≡ drop n rows → take (suc n) rows ≡ take n rows
none_more [] zero is = refl
none_more [] (suc n) is = refl
none_more (first ∷ rows) zero is = cc is
none_more (first ∷ rows) (suc n) is = ap (λ l. first ∷ l) (none_more rows n is)

none_after : (rows : List PlacementRow) (n : ℕ) → [] ≡ drop n rows → drop (suc n) rows ≡ []
none_after [] zero is = refl
none_after [] (suc n) is = refl
none_after (first ∷ rows) zero is = cc is
none_after (first ∷ rows) (suc n) is = none_after rows n is

module _ (rows : List PlacementRow) (n : ℕ) where
  one_more : n + 1 ≡ suc n
  one_more = omega arith

  pub one_taken : (row : PlacementRow) (rest : List PlacementRow) → row ∷ rest ≡ drop n rows → take (n + 1) rows ≡ take n rows ++ row ∷ []
  one_taken row rest is = ap (λ m. take m rows) one_more ∙ after_taken rows n row rest is

  pub one_left : (row : PlacementRow) (rest : List PlacementRow) → row ∷ rest ≡ drop n rows → drop (n + 1) rows ≡ rest
  one_left row rest is = ap (λ m. drop m rows) one_more ∙ after_left rows n row rest is

  pub none_taken : [] ≡ drop n rows → take (n + 1) rows ≡ take n rows
  none_taken is = ap (λ m. take m rows) one_more ∙ none_more rows n is

  pub none_left : [] ≡ drop n rows → drop (n + 1) rows ≡ []
  none_left is = ap (λ m. drop m rows) one_more ∙ none_after rows n is

-- ---- rows behind a row, if there is one

pub first_append : (row : Option PlacementRow) (xs ys : List PlacementRow) → with_first row (xs ++ ys) ≡ with_first row xs ++ ys
first_append None xs ys = refl
first_append (Some row) xs ys = refl

-- the last rows, behind kept ones and a row
behind : (kept : List PlacementRow) (row : Option PlacementRow) (before after last : List PlacementRow) → after ≡ before ++ last → kept ++ with_first row after ≡ (kept ++ with_first row before) ++ last
behind kept row before after last is =
    ap (λ l. kept ++ with_first row l) is ∙ ap (λ l. kept ++ l) (first_append row before last) ∙ sym (append_assoc kept (with_first row before) last)

-- ---- one edit more

-- the rows that edits come to, past an edit
past_edit : (edit : RowEdit) (edits : List RowEdit) (keep : ℕ) (rows : List PlacementRow) → drop (rows_passed edits keep) (drop edit.skip (drop edit.keep rows)) ≡ drop (rows_passed (edit ∷ edits) keep) rows
past_edit edit edits keep rows =
    ap (λ l. drop (rows_passed edits keep) l) (drop-drop edit.skip edit.keep rows) ∙ drop-drop (rows_passed edits keep) (edit.keep + edit.skip) rows
    ∙ ap (λ n. drop n rows) on
  where
    on : (edit.keep + edit.skip) + rows_passed edits keep ≡ edit.keep + (edit.skip + rows_passed edits keep)
    on = omega arith

-- an edit more, after which some rows are kept
pub one_edited : (edits : List RowEdit) (edit : RowEdit) (last : ℕ) (rows : List PlacementRow)
    → edited_rows (edits ++ edit ∷ []) last rows ≡ edited_rows edits edit.keep rows ++ with_first edit.row (take last (drop edit.skip (drop (rows_passed edits edit.keep) rows)))
one_edited [] edit last rows = refl
one_edited (e ∷ edits) edit last rows =
    behind (take e.keep rows) e.row _ _ _
    (one_edited edits edit last (drop e.skip (drop e.keep rows))
    ∙ ap (λ l. edited_rows edits edit.keep (drop e.skip (drop e.keep rows)) ++ with_first edit.row (take last (drop edit.skip l))) (past_edit e edits edit.keep rows))

module _ (edits : List RowEdit) (keep skip : ℕ) (rows : List PlacementRow) where
  -- an edit that puts in a row
  pub put_edited : (row : PlacementRow) → edited_rows (edits ++ (record { keep = keep; skip = skip; row = Some row }) ∷ []) 0 rows ≡ edited_rows edits keep rows ++ row ∷ []
  put_edited row = one_edited edits (record { keep = keep; skip = skip; row = Some row }) 0 rows

  -- an edit that puts in none
  pub skip_edited : edited_rows (edits ++ (record { keep = keep; skip = skip; row = None }) ∷ []) 0 rows ≡ edited_rows edits keep rows
  skip_edited = one_edited edits (record { keep = keep; skip = skip; row = None }) 0 rows ∙ append-nil (edited_rows edits keep rows)

-- more rows kept after the edits
pub more_kept : (edits : List RowEdit) (keep more : ℕ) (rows : List PlacementRow) → edited_rows edits (keep + more) rows ≡ edited_rows edits keep rows ++ take more (drop (rows_passed edits keep) rows)
more_kept [] keep more rows = take-add keep more rows
more_kept (e ∷ edits) keep more rows =
    behind (take e.keep rows) e.row _ _ _
    (more_kept edits keep more (drop e.skip (drop e.keep rows))
    ∙ ap (λ l. edited_rows edits keep (drop e.skip (drop e.keep rows)) ++ take more l) (past_edit e edits keep rows))

-- ---- how many rows are passed, made and added

pub one_passes : (edits : List RowEdit) (edit : RowEdit) (last : ℕ) → rows_passed (edits ++ edit ∷ []) last ≡ rows_passed edits edit.keep + (edit.skip + last)
one_passes [] edit last = refl
one_passes (e ∷ edits) edit last = let rest = one_passes edits edit last in omega (arith, rest)

pub more_passes : (edits : List RowEdit) (keep more : ℕ) → rows_passed edits (keep + more) ≡ rows_passed edits keep + more
more_passes [] keep more = refl
more_passes (e ∷ edits) keep more = let rest = more_passes edits keep more in omega (arith, rest)

pub one_makes : (edits : List RowEdit) (edit : RowEdit) (last : ℕ) → rows_made (edits ++ edit ∷ []) last ≡ rows_made edits edit.keep + (row_count edit.row + last)
one_makes [] edit last = refl
one_makes (e ∷ edits) edit last = let rest = one_makes edits edit last in omega (arith, rest)

pub more_makes : (edits : List RowEdit) (keep more : ℕ) → rows_made edits (keep + more) ≡ rows_made edits keep + more
more_makes [] keep more = refl
more_makes (e ∷ edits) keep more = let rest = more_makes edits keep more in omega (arith, rest)

pub one_adds : (edits : List RowEdit) (edit : RowEdit) → rows_added (edits ++ edit ∷ []) ≡ rows_added edits + (row_count edit.row - edit.skip)
one_adds [] edit = omega arith
one_adds (e ∷ edits) edit = let rest = one_adds edits edit in omega (arith, rest)

-- no more rows are added than made
pub adds_make : (edits : List RowEdit) (keep : ℕ) → rows_added edits ≤ rows_made edits keep
adds_make [] keep = omega arith
adds_make (e ∷ edits) keep = let rest = adds_make edits keep in omega (arith, rest)

-- the rows kept last are passed
pub keep_passes : (edits : List RowEdit) (keep : ℕ) → keep ≤ rows_passed edits keep
keep_passes [] keep = omega arith
keep_passes (e ∷ edits) keep = let rest = keep_passes edits keep in omega (arith, rest)
