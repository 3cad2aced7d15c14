use Rattle.std.proofs.Common.{◌≡◌, ℕ, ◌+◌, ◌∷◌, ◌++◌, [], List, ap, sym, ◌∙◌, arith}
use Rattle.std.specs.Prelude.{Some}
use Rattle.range_placements.proofs.EditedRows.{adds_make, one_adds, one_makes, one_passes, put_edited}
use Rattle.range_placements.specs.Editing.{Edits, all_passed, edited, edited_rows, rows_passed}
use Rattle.range_placements.specs.code.EditCounts.{rows_added, rows_made}
use Rattle.range_placements.specs.declared.row_edits.RowEdit.{RowEdit}
use Rattle.range_placements.proofs.row_edits.RowEdits.put.Goals as goal

pub overflow_add-self-2 : goal.overflow_add-self-2
overflow_add-self-2 c =
    let adds = adds_make c.self.inside.edits.items c.self.inside.keep in
    let made = c.self.invariant.1 in
    let added = c.self.invariant.2 in
    omega (arith, adds, made, added, c.in_ok-make_room.ensures.bound)

pub invariant_of-self-2 : goal.invariant_of-self-2
invariant_of-self-2 c =
    let edits = c.self.inside.edits.items in
    let keep = c.self.inside.keep in
    let edit : RowEdit = record { keep = keep; skip = 0; row = Some c.args.row } in
    let pushed = c.in_ok-push.ensures.items in
    let passes_one = one_passes edits edit 0 in
    let makes_one = one_makes edits edit 0 in
    let adds_one = one_adds edits edit in
    let passed : rows_passed edits keep ≡ rows_passed (edits ++ edit ∷ []) 0 = omega (arith, passes_one) in
    let made : rows_made edits keep + 1 ≡ rows_made (edits ++ edit ∷ []) 0 = omega (arith, makes_one) in
    let added : rows_added edits + 1 ≡ rows_added (edits ++ edit ∷ []) = omega (arith, adds_one) in (
      c.self.invariant.0 ∙ passed ∙ ap (λ (l : List RowEdit). rows_passed l 0) (sym pushed),
      ap (λ (n : ℕ). n + 1) c.self.invariant.1 ∙ made ∙ ap (λ (l : List RowEdit). rows_made l 0) (sym pushed),
      ap (λ (n : ℕ). n + 1) c.self.invariant.2 ∙ added ∙ ap (λ (l : List RowEdit). rows_added l) (sym pushed),
      c.in_ok-make_room.ensures.room,
      c.in_ok-make_room.ensures.empty,
    )

pub returns-clause-rows : goal.returns-clause-rows
returns-clause-rows c rows =
    ap (λ (l : List RowEdit). edited_rows l 0 rows) c.in_ok-push.ensures.items
    ∙ put_edited c.self.inside.edits.items c.self.inside.keep 0 rows c.args.row
    ∙ ap (λ (e : Edits). edited e rows ++ c.args.row ∷ []) c.self.view_is

pub returns-clause-passed : goal.returns-clause-passed
returns-clause-passed c =
    let edits = c.self.inside.edits.items in
    let keep = c.self.inside.keep in
    let edit : RowEdit = record { keep = keep; skip = 0; row = Some c.args.row } in
    let passes_one = one_passes edits edit 0 in
    let passed : rows_passed (edits ++ edit ∷ []) 0 ≡ rows_passed edits keep = omega (arith, passes_one) in
    ap (λ (l : List RowEdit). rows_passed l 0) c.in_ok-push.ensures.items ∙ passed ∙ ap (λ (e : Edits). all_passed e) c.self.view_is
