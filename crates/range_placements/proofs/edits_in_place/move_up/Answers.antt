use Rattle.std.proofs.Common.{◌≡◌, ℕ, ◌+◌, ◌-◌, ◌≤◌, List, ◌++◌, length, take, drop, sym, ap, ◌∙◌, append_assoc, arith}
use Rattle.std.proofs.Math.Seq.{drop-append-add, drop-append_seam}
use borrow.Rule.Slice.PartMut.{mid_of, put_mid}
use Rattle.std.proofs.lemmas.List.{drop-drop, drop-take, length-drop, length-take, take-take}
use Rattle.range_placements.specs.declared.placement_row.PlacementRow.{PlacementRow}
use Rattle.range_placements.proofs.edits_in_place.move_up.Goals as goal

-- a part of g rows and c rows more is turned, so that the c rows come last: what lies from them on
turned : (a g c : ℕ) (rows part : List PlacementRow) → a + (g + c) ≤ length rows → part ≡ drop c (take (g + c) (drop a rows)) ++ take c (take (g + c) (drop a rows))
    → drop (a + g) (take a rows ++ (part ++ drop (g + c) (drop a rows))) ≡ drop a (take (a + c) rows) ++ drop (a + (g + c)) rows
turned a g c rows part within is =
    let rest = drop a rows in
    let both = take (g + c) rest in
    let behind = drop (g + c) rest in
    let front : length (take a rows) ≡ a = let long = length-take a rows in omega (arith, long, within) in
    let gap : length (drop c both) ≡ g =
    let long = length-drop c both in let part_long = length-take (g + c) rest in let rest_long = length-drop a rows in omega (arith, long, part_long, rest_long, within) in
    ap (λ (n : ℕ). drop (n + g) (take a rows ++ (part ++ behind))) (sym front) ∙ drop-append-add (take a rows) (part ++ behind) g
    ∙ ap (λ l. drop g (l ++ behind)) is ∙ ap (λ l. drop g l) (append_assoc (drop c both) (take c both) behind)
    ∙ ap (λ (n : ℕ). drop n (drop c both ++ (take c both ++ behind))) (sym gap) ∙ drop-append_seam (drop c both) (take c both ++ behind)
    ∙ ap (λ l. l ++ behind) (take-take c (g + c) rest (omega arith) ∙ sym (drop-take a c rows))
    ∙ ap (λ l. drop a (take (a + c) rows) ++ l) (drop-drop (g + c) a rows)

-- the count rows before from change places with those from there up to to
moved_up : (from to count : ℕ) (rows part : List PlacementRow) → count ≤ from → from ≤ to → to ≤ length rows
    → part ≡ drop (length (mid_of (from - count) (to - (from - count)) rows) - (to - from)) (mid_of (from - count) (to - (from - count)) rows)
    ++ take (length (mid_of (from - count) (to - (from - count)) rows) - (to - from)) (mid_of (from - count) (to - (from - count)) rows)
    → drop (to - count) (put_mid (from - count) (to - (from - count)) rows part) ≡ drop (from - count) (take from rows) ++ drop to rows
moved_up from to count rows part le order bound is =
    let a = from - count in
    let g = to - from in
    let both : to - a ≡ g + count = omega (arith, le, order) in
    let rest = drop a rows in
    let mid = take (to - a) rest in
    let long : length mid - g ≡ count =
    let taken = length-take (to - a) rest in let left = length-drop a rows in omega (arith, taken, left, le, order, bound) in
    let turns : part ≡ drop count (take (g + count) rest) ++ take count (take (g + count) rest) =
    is ∙ ap (λ (n : ℕ). drop n mid ++ take n mid) long ∙ ap (λ (n : ℕ). drop count (take n rest) ++ take count (take n rest)) both in
    ap (λ (n : ℕ). drop n (put_mid a (to - a) rows part)) (omega (arith, le, order))
    ∙ ap (λ (n : ℕ). drop (a + g) (put_mid a n rows part)) both
    ∙ turned a g count rows part (omega (arith, le, order, bound)) turns
    ∙ ap (λ (n : ℕ). drop a (take n rows) ++ drop (a + (g + count)) rows) (omega (arith, le))
    ∙ ap (λ (n : ℕ). drop a (take from rows) ++ drop n rows) (omega (arith, le, order))

pub returns-clause-after : goal.returns-clause-after
returns-clause-after c = moved_up c.args.from c.args.to c.args.count c.args.rows.now c.rotate_right.new.self c.requires.count c.requires.order c.requires.bound c.rotate_right.ensures.after
