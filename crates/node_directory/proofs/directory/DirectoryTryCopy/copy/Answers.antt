use Rattle.std.proofs.Common.{List, ◌++◌, sym, ap, ◌∙◌}
use Rattle.std.specs.Map.{values_of}
use Rattle.cluster_terms.specs.declared.node.NodeRow.{NodeRow}
use Rattle.node_directory.specs.Directory.{names_are_distinct, node_names}
use Rattle.node_directory.proofs.NodeRows.{names-distinct, new-name}
use Rattle.node_directory.proofs.directory.DirectoryTryCopy.copy.Goals as goal

-- the names of a directory are distinct, so the next row's is not among those before it
pub push_copy-requires-clause-free : goal.push_copy-requires-clause-free
push_copy-requires-clause-free c =
    let done = values_of c.loop-row.nodes.entries in
    let all = ap (λ (rest : List NodeRow). done ++ rest) (sym c.in-Some.ensures.steps) ∙ c.loop-row.invariant.rows in
    new-name done c.in-Some.row.now c.next.new.self (ap (λ (rows : List NodeRow). names_are_distinct (node_names rows)) all ∙ names-distinct 0 (values_of c.self.inside.nodes.entries) c.self.inside.next c.self.invariant.0.1)
