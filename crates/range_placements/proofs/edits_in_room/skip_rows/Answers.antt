use Rattle.std.proofs.Common.{◌≡◌, ℕ, ◌+◌, ◌∷◌, [], drop, sym, ◌∙◌}
use Rattle.std.specs.Vec.Iter.{into_iter_items}
use Rattle.std.specs.Prelude.{List, MatchOption, Option, Some, None}
use Rattle.range_placements.proofs.EditedRows.{none_left, one_left}
use Rattle.range_placements.specs.declared.placement_row.PlacementRow.{PlacementRow}
use Rattle.range_placements.proofs.edits_in_room.skip_rows.Goals as goal

-- one row less is left
less : (rows left after : List PlacementRow) (n : ℕ) (r : Option PlacementRow) → left ≡ drop n rows → MatchOption r ((left ≡ []) × (after ≡ [])) (λ row. left ≡ row ∷ after) → after ≡ drop (n + 1) rows
less rows left after n (Some row) was next = sym (one_left rows n row after (sym next ∙ was))
less rows left after n None was next = next.1 ∙ sym (none_left rows n (sym next.0 ∙ was))

pub loop-done-preserved : goal.loop-done-preserved
loop-done-preserved c = less (into_iter_items c.args.left.now) _ _ c.loop-done._done c.next_row-removed.result c.loop-done.invariant c.next_row-removed.ensures
