use Rattle.std.proofs.Common.{◌≡◌, ℕ, ◌+◌, ◌++◌, List, take, drop, ap, sym, ◌∙◌, arith}
use Rattle.range_placements.proofs.EditedRows.{keep_passes, more_kept, more_makes, more_passes}
use Rattle.range_placements.specs.Editing.{Edits, all_passed, edited, edited_rows, rows_passed}
use Rattle.range_placements.specs.declared.placement_row.PlacementRow.{PlacementRow}
use Rattle.range_placements.proofs.row_edits.RowEdits.keep.Goals as goal

pub overflow_add-self : goal.overflow_add-self
overflow_add-self c =
    let at : rows_passed c.self.inside.edits.items c.self.inside.keep ≡ c.args.at = ap (λ (e : Edits). all_passed e) c.self.view_is ∙ c.in_ok-skip_to.ensures.passed in
    let low = keep_passes c.self.inside.edits.items c.self.inside.keep in
    omega (arith, low, at, c.requires.bound)

pub overflow_add-self-2 : goal.overflow_add-self-2
overflow_add-self-2 c =
    let at : rows_passed c.self.inside.edits.items c.self.inside.keep ≡ c.args.at = ap (λ (e : Edits). all_passed e) c.self.view_is ∙ c.in_ok-skip_to.ensures.passed in
    let passes = c.self.invariant.0 in
    omega (arith, passes, at, c.requires.bound)

pub invariant_of-self-2 : goal.invariant_of-self-2
invariant_of-self-2 c =
    let edits = c.self.inside.edits.items in
    let keep = c.self.inside.keep in
    let passes = more_passes edits keep c.args.count in
    let makes = more_makes edits keep c.args.count in (
      ap (λ (n : ℕ). n + c.args.count) c.self.invariant.0 ∙ sym passes,
      ap (λ (n : ℕ). n + c.args.count) c.self.invariant.1 ∙ sym makes,
      c.self.invariant.2,
      c.in_ok-make_room.ensures.room,
      c.in_ok-make_room.ensures.empty,
    )

pub returns-clause-rows : goal.returns-clause-rows
returns-clause-rows c rows =
    let edits = c.self.inside.edits.items in
    let keep = c.self.inside.keep in
    let at : rows_passed c.self.inside.edits.items c.self.inside.keep ≡ c.args.at = ap (λ (e : Edits). all_passed e) c.self.view_is ∙ c.in_ok-skip_to.ensures.passed in
    more_kept edits keep c.args.count rows
    ∙ ap (λ (n : ℕ). edited_rows edits keep rows ++ take c.args.count (drop n rows)) at
    ∙ ap (λ (l : List PlacementRow). l ++ take c.args.count (drop c.args.at rows)) (ap (λ (e : Edits). edited e rows) c.self.view_is ∙ c.in_ok-skip_to.ensures.rows rows)

pub returns-clause-passed : goal.returns-clause-passed
returns-clause-passed c =
    let at : rows_passed c.self.inside.edits.items c.self.inside.keep ≡ c.args.at = ap (λ (e : Edits). all_passed e) c.self.view_is ∙ c.in_ok-skip_to.ensures.passed in
    more_passes c.self.inside.edits.items c.self.inside.keep c.args.count ∙ ap (λ (n : ℕ). n + c.args.count) at
