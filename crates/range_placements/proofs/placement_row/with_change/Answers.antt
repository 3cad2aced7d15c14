use Rattle.std.proofs.Common.{◌≡◌, IfOk, ℕ, List, length, sym, subst, rules}
use Rattle.range_placements.proofs.ChangedRows.{no_loss, unchanged}
use Rattle.range_placements.proofs.placement_row.with_change.Goals as goal

pub returns-then-is_empty-2 : goal.returns-then-is_empty-2
returns-then-is_empty-2 c =
    let gained : length c.args.gained.now ≡ 0 = search rules in
    let lost : length c.args.lost.now ≡ 0 = search rules in
    subst (λ (set : List ℕ). IfOk c.copy.result (λ other. other ≡ set)) (sym (unchanged c.args.set.now c.args.gained.now c.args.lost.now gained lost)) c.copy.ensures

pub returns-then-is_empty-3 : goal.returns-then-is_empty-3
returns-then-is_empty-3 c =
    let lost : length c.args.lost.now ≡ 0 = search rules in
    subst (λ (set : List ℕ). IfOk c.union.result (λ other. other ≡ set)) (sym (no_loss c.args.set.now c.args.gained.now c.args.lost.now lost)) c.union.ensures.ids
