use Rattle.std.proofs.Common.{ap, rules}
use Rattle.node_directory.specs.Directory.{Registry}
use Rattle.node_directory.proofs.StoredRowLemmas.{node_named-lookup}
use Rattle.node_directory.proofs.directory.Directory.find.Goals as goal

pub returns : goal.returns
returns c =
    let found = node_named-lookup c.self.inside.nodes.entries c.args.self.now _ _ c.self.invariant.0.0 (ap (λ (d : Registry). d.rows) c.self.view_is) c.as_str.ensures.text in
    let cases = c.map.ensures.cases in
    search (rules, found)
