use Rattle.std.proofs.Common.{◌≡◌, ℕ, ◌+◌, ◌∷◌, ◌++◌, [], List, take, drop, ap, sym, ◌∙◌, append_assoc, arith, Vec, Global, vec_capacity, vec_len}
use Rattle.std.specs.Vec.Iter.{into_iter_items}
use Rattle.range_placements.proofs.EditedRows.{none_left, none_taken, one_left, one_taken}
use Rattle.range_placements.specs.declared.placement_row.PlacementRow.{PlacementRow}
use Rattle.range_placements.proofs.edits_in_room.move_rows.Goals.{in-Some, in_default}
use Rattle.range_placements.proofs.edits_in_room.move_rows.Goals as goal

pub put_row-requires : goal.put_row-requires
put_row-requires c = let count = c.loop-done.invariant.count in let room = c.loop-done.invariant.room in omega (arith, count, room, c.requires, c.loop-done-test.true)

pub loop-done-preserved : goal.loop-done-preserved
loop-done-preserved c =
    let rows = into_iter_items c.args.left.now in
    let n = c.loop-done._done in
    let was = c.loop-done.invariant in
    elim c.match-next_row.branch [
      | in-Some w ↦
          let is : w.in-Some.row ∷ into_iter_items c.next_row.new.left ≡ drop n rows = sym w.in-Some.ensures ∙ was.left in
          let count : vec_len c.match-next_row.rows ≡ vec_len c.loop-done.rows + 1 = ap vec_len w.rows-is ∙ w.put_row.ensures.count in
          let capacity : vec_capacity c.match-next_row.rows ≡ vec_capacity w.put_row.new.rows = ap vec_capacity w.rows-is in
          record {
            items =
                ap (λ (v : Vec PlacementRow Global). v.items) w.rows-is ∙ w.put_row.ensures.items
                ∙ ap (λ (l : List PlacementRow). l ++ w.in-Some.row ∷ []) was.items
                ∙ append_assoc c.args.rows.now.items (take n rows) (w.in-Some.row ∷ [])
                ∙ ap (λ (l : List PlacementRow). c.args.rows.now.items ++ l) (sym (one_taken rows n w.in-Some.row (into_iter_items c.next_row.new.left) is));
            left = sym (one_left rows n w.in-Some.row (into_iter_items c.next_row.new.left) is);
            count = let before = was.count in omega (arith, count, before);
            room = let before = was.room in let now = w.put_row.ensures.room in omega (arith, capacity, before, now);
          }
      | in_default w ↦
          let is : [] ≡ drop n rows = sym w.in_default.ensures.0 ∙ was.left in
          let count : vec_len c.match-next_row.rows ≡ vec_len c.loop-done.rows = ap vec_len w.rows-is in
          let capacity : vec_capacity c.match-next_row.rows ≡ vec_capacity c.loop-done.rows = ap vec_capacity w.rows-is in
          record {
            items =
                ap (λ (v : Vec PlacementRow Global). v.items) w.rows-is ∙ was.items
                ∙ ap (λ (l : List PlacementRow). c.args.rows.now.items ++ l) (sym (none_taken rows n is));
            left = w.in_default.ensures.1 ∙ sym (none_left rows n is);
            count = let before = was.count in omega (arith, count, before);
            room = let before = was.room in omega (arith, capacity, before);
          }
    ]

pub returns-clause-items : goal.returns-clause-items
returns-clause-items c =
    let all : c.loop-done._done ≡ c.args.count = omega (arith, c.loop-done-test.false, c.loop-done.auto._done-end) in
    c.loop-done.invariant.items ∙ ap (λ (n : ℕ). c.args.rows.now.items ++ take n (into_iter_items c.args.left.now)) all

pub returns-clause-left : goal.returns-clause-left
returns-clause-left c =
    let all : c.loop-done._done ≡ c.args.count = omega (arith, c.loop-done-test.false, c.loop-done.auto._done-end) in
    c.loop-done.invariant.left ∙ ap (λ (n : ℕ). drop n (into_iter_items c.args.left.now)) all
