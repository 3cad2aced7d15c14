-- Edits made in place, from the last to the first: the rows before the gap are as they were, and those behind it are as
-- they are to be.
use Rattle.std.proofs.Common.{◌≡◌, ℕ, ◌+◌, ◌-◌, ◌≤◌, List, [], ◌∷◌, ◌++◌, length, take, drop, refl, sym, ap, ◌∙◌, append_assoc, subst, arith}
use Rattle.std.proofs.Math.ListN.{drop_of_length-le}
use Rattle.std.proofs.lemmas.List.{append-nil, drop-drop, drop-take, length-drop, length-take, take-take, take_all}
use Rattle.range_placements.proofs.EditedRows.{first_append, one_adds, one_edited, one_passes}
use Rattle.range_placements.specs.Editing.{edited_rows, rows_passed, with_first}
use Rattle.range_placements.specs.code.EditCounts.{row_count, rows_added}
use Rattle.range_placements.specs.code.InPlace.{LeadsTo}
use Rattle.range_placements.specs.declared.placement_row.PlacementRow.{PlacementRow}
use Rattle.range_placements.specs.declared.row_edits.RowEdit.{RowEdit}

-- ---- the rows that edits come to

-- the rows that edits don't come to make no difference
pub only_passed : (edits : List RowEdit) (last : ℕ) (rows : List PlacementRow) → edited_rows edits last (take (rows_passed edits last) rows) ≡ edited_rows edits last rows
only_passed [] last rows = take-take last last rows (omega arith)
only_passed (e ∷ edits) last rows =
    let p = rows_passed edits last in
    let kept : take e.keep (take (e.keep + (e.skip + p)) rows) ≡ take e.keep rows = take-take e.keep (e.keep + (e.skip + p)) rows (omega arith) in
    let left : drop e.skip (drop e.keep (take (e.keep + (e.skip + p)) rows)) ≡ take p (drop e.skip (drop e.keep rows)) =
    ap (λ l. drop e.skip l) (drop-take e.keep (e.skip + p) rows) ∙ drop-take e.skip p (drop e.keep rows) in
    ap (λ l. l ++ with_first e.row (edited_rows edits last (drop e.skip (drop e.keep (take (e.keep + (e.skip + p)) rows))))) kept
    ∙ ap (λ l. take e.keep rows ++ with_first e.row l) (ap (λ l. edited_rows edits last l) left ∙ only_passed edits last (drop e.skip (drop e.keep rows)))

-- ---- the last edit

module _ (edits : List RowEdit) (edit : RowEdit) {all : List RowEdit} {keep from to : ℕ} {rows last : List PlacementRow} (is : all ≡ edits ++ edit ∷ []) (held : LeadsTo all keep from to rows last) where
  leads : LeadsTo (edits ++ edit ∷ []) keep from to rows last
  leads = subst (λ (es : List RowEdit). LeadsTo es keep from to rows last) is held

  pub all_passed : from ≡ rows_passed edits edit.keep + (edit.skip + keep)
  all_passed = leads.passed ∙ one_passes edits edit keep

  pub all_added : from + (rows_added edits + (row_count edit.row - edit.skip)) ≤ to
  all_added = let order = leads.order in let adds = one_adds edits edit in omega (arith, order, adds)

  front_long : length (take from rows) ≡ from
  front_long = let is = length-take from rows in let bound = leads.bound in let order = leads.order in omega (arith, is, bound, order)

  -- the rows that the edit leaves behind those that it removes
  last_kept : take keep (drop edit.skip (drop (rows_passed edits edit.keep) (take from rows))) ≡ drop (from - keep) (take from rows)
  last_kept =
      let all = all_passed in
      let at : rows_passed edits edit.keep + edit.skip ≡ from - keep = omega (arith, all) in
      let count : length (drop (from - keep) (take from rows)) ≤ keep = let is = length-drop (from - keep) (take from rows) in let long = front_long in omega (arith, is, long, all) in
      ap (λ l. take keep l) (drop-drop edit.skip (rows_passed edits edit.keep) (take from rows) ∙ ap (λ n. drop n (take from rows)) at)
      ∙ take_all keep (drop (from - keep) (take from rows)) count

  -- the rows that the edits before it come to
  pub others : edited_rows edits edit.keep (take from rows) ≡ edited_rows edits edit.keep (take ((from - keep) - edit.skip) rows)
  others =
      let all = all_passed in
      let at : rows_passed edits edit.keep ≡ (from - keep) - edit.skip = omega (arith, all) in
      sym (only_passed edits edit.keep (take from rows))
      ∙ ap (λ l. edited_rows edits edit.keep l) (take-take (rows_passed edits edit.keep) from rows (omega (arith, all)) ∙ ap (λ n. take n rows) at)

  pub before_last : edited_rows edits edit.keep (take ((from - keep) - edit.skip) rows) ++ with_first edit.row (drop (from - keep) (take from rows) ++ drop to rows) ≡ last
  before_last =
      ap (λ l. edited_rows edits edit.keep (take ((from - keep) - edit.skip) rows) ++ l) (first_append edit.row (drop (from - keep) (take from rows)) (drop to rows))
      ∙ sym (append_assoc (edited_rows edits edit.keep (take ((from - keep) - edit.skip) rows)) (with_first edit.row (drop (from - keep) (take from rows))) (drop to rows))
      ∙ ap (λ l. l ++ drop to rows)
      (ap (λ l. l ++ with_first edit.row (drop (from - keep) (take from rows))) (sym others)
      ∙ ap (λ l. edited_rows edits edit.keep (take from rows) ++ with_first edit.row l) (sym last_kept) ∙ sym (one_edited edits edit keep (take from rows)))
      ∙ leads.leads

  -- once the rows behind the edit are kept, and the edit is made, the edits before it are left
  pub last_made : (middle after : List PlacementRow)
      → take (from - keep) middle ≡ take (from - keep) rows → drop (to - keep) middle ≡ drop (from - keep) (take from rows) ++ drop to rows → length middle ≡ length rows
      → take ((from - keep) - edit.skip) after ≡ take ((from - keep) - edit.skip) middle → drop ((to - keep) - row_count edit.row) after ≡ with_first edit.row (drop (to - keep) middle)
      → length after ≡ length middle → LeadsTo edits edit.keep ((from - keep) - edit.skip) ((to - keep) - row_count edit.row) after last
  last_made middle after front back count front_after back_after count_after =
      let all = all_passed in
      let added = all_added in
      let bound = leads.bound in
      let front_is : take ((from - keep) - edit.skip) after ≡ take ((from - keep) - edit.skip) rows =
      front_after ∙ sym (take-take ((from - keep) - edit.skip) (from - keep) middle (omega arith))
      ∙ ap (λ l. take ((from - keep) - edit.skip) l) front ∙ take-take ((from - keep) - edit.skip) (from - keep) rows (omega arith) in
      record {
        leads =
            ap (λ l. edited_rows edits edit.keep l ++ drop ((to - keep) - row_count edit.row) after) front_is
            ∙ ap (λ l. edited_rows edits edit.keep (take ((from - keep) - edit.skip) rows) ++ l) (back_after ∙ ap (λ l. with_first edit.row l) back)
            ∙ before_last;
        passed = omega (arith, all);
        order = omega (arith, all, added);
        bound = omega (arith, bound, count, count_after);
      }

-- ---- before the first edit and after the last

pub begin : (edits : List RowEdit) (keep : ℕ) (rows opened : List PlacementRow) → take (rows_passed edits keep) opened ≡ take (rows_passed edits keep) rows
    → length opened ≡ rows_passed edits keep + rows_added edits → LeadsTo edits keep (rows_passed edits keep) (rows_passed edits keep + rows_added edits) opened (edited_rows edits keep rows)
begin edits keep rows opened front count =
    let p = rows_passed edits keep in
    let none : drop (p + rows_added edits) opened ≡ [] = drop_of_length-le opened (omega (arith, count)) in
    record {
      leads =
          ap (λ l. edited_rows edits keep (take p opened) ++ l) none ∙ append-nil (edited_rows edits keep (take p opened))
          ∙ ap (λ l. edited_rows edits keep l) front ∙ only_passed edits keep rows;
      passed = refl;
      order = omega arith;
      bound = omega (arith, count);
    }
