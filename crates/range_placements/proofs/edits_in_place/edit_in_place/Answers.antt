use Rattle.std.proofs.Common.{◌≡◌, ℕ, ◌+◌, ◌-◌, ◌++◌, take, drop, ap, sym, ◌∙◌, subst, arith}
use Rattle.range_placements.proofs.InPlaceEdits.{all_added, all_passed, begin, last_made}
use Rattle.range_placements.specs.Editing.{edited_rows, rows_passed, with_first}
use Rattle.range_placements.specs.code.EditCounts.{row_count, rows_added}
use Rattle.range_placements.specs.code.InPlace.{LeadsTo}
use Rattle.range_placements.specs.declared.edits_in_place.Gap.{Gap}
use Rattle.range_placements.proofs.edits_in_place.edit_in_place.Goals as goal

pub loop-keep-init : goal.loop-keep-init
loop-keep-init c =
    let edits = c.args.edits.items in
    let keep = c.args.keep in
    let opened = c.open_gap-gap.new.rows.items in
    let at : c.args.passed ≡ rows_passed edits keep = c.requires.passed in
    let until : c.args.passed + c.args.added ≡ rows_passed edits keep + rows_added edits = let added = c.requires.added in omega (arith, at, added) in
    let front : take (rows_passed edits keep) opened ≡ take (rows_passed edits keep) c.args.rows.now.items =
    subst (λ (n : ℕ). take n opened ≡ take n c.args.rows.now.items) at c.open_gap-gap.ensures.rows in
    let started = begin edits keep c.args.rows.now.items opened front (c.open_gap-gap.ensures.len ∙ until) in
    subst (λ (gap : Gap). LeadsTo edits keep gap.from gap.to opened (edited_rows edits keep c.args.rows.now.items)) (sym c.open_gap-gap.ensures.gap)
    (subst (λ (n : ℕ). LeadsTo edits keep n (c.args.passed + c.args.added) opened (edited_rows edits keep c.args.rows.now.items)) (sym at)
    (subst (λ (n : ℕ). LeadsTo edits keep (rows_passed edits keep) n opened (edited_rows edits keep c.args.rows.now.items)) (sym until) started))

pub keep_rows-requires-clause-count : goal.keep_rows-requires-clause-count
keep_rows-requires-clause-count c =
    let all = all_passed c.pop.new.self.items c.in-Some.field-0 c.in-Some.ensures.items c.loop-keep.invariant in
    omega (arith, all)

pub put_first-requires-clause-skip : goal.put_first-requires-clause-skip
put_first-requires-clause-skip c =
    let all = all_passed c.pop.new.self.items c.in-Some.field-0 c.in-Some.ensures.items c.loop-keep.invariant in
    let at = ap (λ (gap : Gap). gap.from) c.keep_rows.ensures.gap in
    omega (arith, all, at)

pub put_first-requires-clause-order : goal.put_first-requires-clause-order
put_first-requires-clause-order c =
    let all = all_passed c.pop.new.self.items c.in-Some.field-0 c.in-Some.ensures.items c.loop-keep.invariant in
    let added = all_added c.pop.new.self.items c.in-Some.field-0 c.in-Some.ensures.items c.loop-keep.invariant in
    let at = ap (λ (gap : Gap). gap.from) c.keep_rows.ensures.gap in
    let until = ap (λ (gap : Gap). gap.to) c.keep_rows.ensures.gap in
    omega (arith, all, added, at, until)

pub loop-keep-preserved : goal.loop-keep-preserved
loop-keep-preserved c =
    let rest = c.pop.new.self.items in
    let edit = c.in-Some.field-0 in
    let kept = c.loop-keep.kept in
    let from = c.loop-keep.gap.from in
    let to = c.loop-keep.gap.to in
    let rows = c.loop-keep.rows.items in
    let last = edited_rows c.args.edits.items c.args.keep c.args.rows.now.items in
    let middle = c.keep_rows.new.rows.items in
    let after = c.put_first.new.rows.items in
    let at : c.keep_rows.new.gap.from ≡ from - kept = ap (λ (gap : Gap). gap.from) c.keep_rows.ensures.gap in
    let until : c.keep_rows.new.gap.to ≡ to - kept = ap (λ (gap : Gap). gap.to) c.keep_rows.ensures.gap in
    let at_last : c.put_first.new.gap.from ≡ (from - kept) - edit.skip = ap (λ (gap : Gap). gap.from) c.put_first.ensures.gap ∙ ap (λ (n : ℕ). n - edit.skip) at in
    let until_last : c.put_first.new.gap.to ≡ (to - kept) - row_count edit.row = ap (λ (gap : Gap). gap.to) c.put_first.ensures.gap ∙ ap (λ (n : ℕ). n - row_count edit.row) until in
    let front = subst (λ (n : ℕ). take n middle ≡ take n rows) at c.keep_rows.ensures.before in
    let back : drop (to - kept) middle ≡ drop (from - kept) (take from rows) ++ drop to rows =
    ap (λ (n : ℕ). drop n middle) (sym until) ∙ c.keep_rows.ensures.after ∙ ap (λ (n : ℕ). drop n (take from rows) ++ drop to rows) at in
    let front_last = subst (λ (n : ℕ). take n after ≡ take n middle) at_last c.put_first.ensures.before in
    let back_last = ap (λ (n : ℕ). drop n after) (sym until_last) ∙ c.put_first.ensures.after ∙ ap (λ (n : ℕ). with_first edit.row (drop n middle)) until in
    let made = last_made rest edit c.in-Some.ensures.items c.loop-keep.invariant middle after front back c.keep_rows.ensures.len front_last back_last c.put_first.ensures.len in
    subst (λ (n : ℕ). LeadsTo rest edit.keep n c.put_first.new.gap.to after last) (sym at_last)
    (subst (λ (n : ℕ). LeadsTo rest edit.keep ((from - kept) - edit.skip) n after last) (sym until_last) made)
