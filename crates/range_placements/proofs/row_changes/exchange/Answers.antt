use Rattle.std.proofs.Common.{ap, sym, ◌∙◌, arith}
use Rattle.range_placements.proofs.Exchanges.{nodes_past, nodes_stored}
use Rattle.range_placements.specs.Exchanging.{with_nodes_at}
use Rattle.range_placements.specs.declared.row_changes.NewNodes.{NewNodes}
use Rattle.range_placements.specs.declared.row_changes.NewNodes.TheVariants.{Reads, Writes}
use Rattle.range_placements.proofs.row_changes.exchange.Goals as goal

pub returns-in-Reads : goal.returns-in-Reads
returns-in-Reads c =
    let at = c.args.change.at in
    let rows = c.args.rows.now.items in
    nodes_stored (Reads c.in-Reads.reads) rows at c.index_mut.result.now (omega arith) c.index_mut.ensures.value
    ∙ ap (λ (nodes : NewNodes). with_nodes_at at nodes rows) (sym c.in-Reads.is)

pub returns-in-Writes : goal.returns-in-Writes
returns-in-Writes c =
    let at = c.args.change.at in
    let rows = c.args.rows.now.items in
    nodes_stored (Writes c.in-Writes.writes) rows at c.index_mut-in-Writes.result.now (omega arith) c.index_mut-in-Writes.ensures.value
    ∙ ap (λ (nodes : NewNodes). with_nodes_at at nodes rows) (sym c.in-Writes.is)

pub returns-else-at-len : goal.returns-else-at-len
returns-else-at-len c = sym (nodes_past c.args.change.nodes c.args.rows.now.items c.args.change.at (omega arith))
