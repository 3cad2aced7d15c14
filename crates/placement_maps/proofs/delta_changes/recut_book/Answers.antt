use Rattle.std.proofs.Common.{◌≡◌, ◌∙◌, ◌⊎◌, inl, inr, List, ap, sym, length}
use Rattle.std.proofs.lemmas.List.{append-nil}
use Rattle.range_placements.specs.Editing.{Edits, edited}
use Rattle.placement_maps.proofs.RevisedBooks.{all_led}
use Rattle.placement_maps.specs.code.MapChanges.{each_edited}
use Rattle.placement_maps.specs.code.Turns.{recut_rows}
use Rattle.placement_maps.proofs.delta_changes.recut_book.Goals as goal

pub returns : goal.returns
returns c same =
    let left = c.loop-row.row-iterator.a.rest.now in
    let deltas = c.loop-row.row-iterator.b.rest.now in
    let over : (length left ≡ 0) ⊎ (length deltas ≡ 0) = elim c.in-None.ensures.steps [ inl a ↦ inl a.1.0 | inr b ↦ inr b.1.0 ] in
    ap (λ (all : List Edits). each_edited all c.args.book.now) (sym (append-nil c.loop-row.edits.items))
    ∙ all_led edited (recut_rows c.args.turn c.args.ranges.now) c.loop-row.edits.items left deltas c.args.book.now c.args.deltas.now (c.loop-row.invariant.0 same) over c.loop-row.invariant.1
