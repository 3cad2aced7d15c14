use Rattle.std.proofs.Common.{List, ℕ, ◌∙◌, ap}
use Rattle.std.specs.Option.{option_map}
use Rattle.cluster_terms.specs.declared.node.NodeRow.{NodeRow}
use Rattle.node_directory.proofs.directory.Directory.place_of.Goals as goal

pub returns : goal.returns
returns c =
    ap (option_map (λ (row : NodeRow). let place : List ℕ × List ℕ = (row.dc, row.rack) in place)) (c.in_ok-row.ensures ∙ c.in_ok-place.ensures.row)
