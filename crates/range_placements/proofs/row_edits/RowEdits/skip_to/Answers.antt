use Rattle.std.proofs.Common.{◌≡◌, ◌-◌, ◌≤◌, ◌∷◌, ◌++◌, [], List, ap, sym, ◌∙◌, subst, arith}
use Rattle.std.specs.Prelude.{None}
use Rattle.range_placements.proofs.EditedRows.{one_adds, one_makes, one_passes, skip_edited}
use Rattle.range_placements.specs.Editing.{Edits, all_passed, edited, edited_rows, rows_passed}
use Rattle.range_placements.specs.code.EditCounts.{rows_added, rows_made}
use Rattle.range_placements.specs.declared.row_edits.RowEdit.{RowEdit}
use Rattle.range_placements.proofs.row_edits.RowEdits.skip_to.Goals as goal

pub invariant_of-self-2 : goal.invariant_of-self-2
invariant_of-self-2 c =
    let edits = c.self.inside.edits.items in
    let keep = c.self.inside.keep in
    let edit : RowEdit = record { keep = keep; skip = c.args.at - c.self.inside.passed; row = None } in
    let pushed = c.in_ok-push.ensures.items in
    let place : rows_passed edits keep ≤ c.args.at = subst (λ (e : Edits). all_passed e ≤ c.args.at) (sym c.self.view_is) c.requires in
    let passes = c.self.invariant.0 in
    let passes_one = one_passes edits edit 0 in
    let makes_one = one_makes edits edit 0 in
    let adds_one = one_adds edits edit in
    let passed : c.args.at ≡ rows_passed (edits ++ edit ∷ []) 0 = omega (arith, place, passes, passes_one) in
    let made : rows_made edits keep ≡ rows_made (edits ++ edit ∷ []) 0 = omega (arith, makes_one) in
    let added : rows_added edits ≡ rows_added (edits ++ edit ∷ []) = omega (arith, adds_one) in (
      passed ∙ ap (λ (l : List RowEdit). rows_passed l 0) (sym pushed),
      c.self.invariant.1 ∙ made ∙ ap (λ (l : List RowEdit). rows_made l 0) (sym pushed),
      c.self.invariant.2 ∙ added ∙ ap (λ (l : List RowEdit). rows_added l) (sym pushed),
      c.self.invariant.3,
      c.self.invariant.4,
    )

pub returns-clause-rows : goal.returns-clause-rows
returns-clause-rows c rows =
    ap (λ (l : List RowEdit). edited_rows l 0 rows) c.in_ok-push.ensures.items
    ∙ skip_edited c.self.inside.edits.items c.self.inside.keep (c.args.at - c.self.inside.passed) rows
    ∙ ap (λ (e : Edits). edited e rows) c.self.view_is

pub returns-clause-passed : goal.returns-clause-passed
returns-clause-passed c =
    let edits = c.self.inside.edits.items in
    let keep = c.self.inside.keep in
    let edit : RowEdit = record { keep = keep; skip = c.args.at - c.self.inside.passed; row = None } in
    let place : rows_passed edits keep ≤ c.args.at = subst (λ (e : Edits). all_passed e ≤ c.args.at) (sym c.self.view_is) c.requires in
    let passes = c.self.invariant.0 in
    let passes_one = one_passes edits edit 0 in
    let passed : rows_passed (edits ++ edit ∷ []) 0 ≡ c.args.at = omega (arith, place, passes, passes_one) in
    ap (λ (l : List RowEdit). rows_passed l 0) c.in_ok-push.ensures.items ∙ passed
