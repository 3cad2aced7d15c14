use Rattle.std.proofs.Common.{◌≡◌, ◌==◌, ◌∙◌, ap, subst, sym, Some, None}
use Rattle.std.specs.List.{position}
use Rattle.cluster_terms.specs.declared.node.NodeRow.{NodeRow}
use Rattle.cluster_metadata.specs.code.Nodes.{IsLeftRow, nodes_left}
use Rattle.cluster_metadata.specs.declared.changes.left_row.LeftRow.{LeftRow}
use Rattle.cluster_metadata.proofs.accepted.ChangedNodes.{is_left, left_nodes, none_left}
use Rattle.cluster_metadata.proofs.changes.left_row.left_row.Goals as goal

pub returns-in_ok-left-in-Some-found_at-clause-nodes : goal.returns-in_ok-left-in-Some-found_at-clause-nodes
returns-in_ok-left-in-Some-found_at-clause-nodes c =
    let found : position (λ (row : NodeRow). row.id == c.in-Some.node) c.args.image.now.nodes ≡ Some c.in-Some-found_at.at = sym (rw c.as_slice-nodes.ensures at c.found_at.ensures) ∙ c.in-Some-found_at.is in
    let here = rw c.as_slice-nodes.ensures at c.index-nodes-at.is in
    ap (λ (left : LeftRow). nodes_left c.args.image.now.nodes (Some left)) c.in_ok-left-in-Some-found_at.ensures ∙ left_nodes c.args.image.now c.in-Some.node c.in-Some-found_at.at c.index-nodes-at.result c.requires here found _ c.in_ok-row-in-Some-found_at.ensures _ c.in-Some.is

pub returns-in_ok-left-in-Some-found_at-clause-row : goal.returns-in_ok-left-in-Some-found_at-clause-row
returns-in_ok-left-in-Some-found_at-clause-row c =
    let found : position (λ (row : NodeRow). row.id == c.in-Some.node) c.args.image.now.nodes ≡ Some c.in-Some-found_at.at = sym (rw c.as_slice-nodes.ensures at c.found_at.ensures) ∙ c.in-Some-found_at.is in
    let here = rw c.as_slice-nodes.ensures at c.index-nodes-at.is in
    subst (IsLeftRow c.args.image.now.nodes) (sym c.in_ok-left-in-Some-found_at.ensures) (is_left c.args.image.now c.in-Some.node c.in-Some-found_at.at c.index-nodes-at.result c.requires here found _ c.in_ok-row-in-Some-found_at.ensures)

pub returns-in-None-clause-nodes : goal.returns-in-None-clause-nodes
returns-in-None-clause-nodes c =
    let found : position (λ (row : NodeRow). row.id == c.in-Some.node) c.args.image.now.nodes ≡ None = sym (rw c.as_slice-nodes.ensures at c.found_at.ensures) ∙ c.in-None.is in
    rw c.in-Some.is (none_left c.args.image.now c.in-Some.node found)
