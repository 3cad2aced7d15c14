use Rattle.std.proofs.Common.{List, ap, sym, ◌∙◌}
use Rattle.range_placements.proofs.Exchanges.{exchanged_last}
use Rattle.range_placements.specs.Exchanging.{with_changes}
use Rattle.range_placements.specs.declared.row_changes.RowChange.{RowChange}
use Rattle.range_placements.proofs.row_changes.RowChanges.make.Goals as goal

pub loop-change-preserved : goal.loop-change-preserved
loop-change-preserved c =
    let left = c.pop.new.self.items in
    let rows = c.loop-change.rows.items in
    ap (with_changes left) c.exchange.ensures
    ∙ sym (exchanged_last left c.in-Some.change rows)
    ∙ ap (λ (changes : List RowChange). with_changes changes rows) (sym c.in-Some.ensures.items)
    ∙ c.loop-change.invariant
