use Rattle.std.proofs.Common.{◌≡◌, Some, ap, slice_get, sym, ◌∙◌, rules}
use Rattle.std.proofs.lemmas.Option.{get_or_from_slice_get, slice_get_within}
use Rattle.std.specs.Option.{option_copied}
use Rattle.cluster_terms.specs.declared.node.NodeRow.{NodeRow}
use Rattle.node_directory.proofs.NodeRows.{ids-ascend}
use Rattle.node_directory.proofs.RowSearch.{place-from_id}
use Rattle.node_directory.proofs.directory.Directory.is_at.Goals as goal

pub returns-in-Some : goal.returns-in-Some
returns-in-Some c same =
    let registry = c.args.self.now in
    let found : slice_get registry.rows c.args.at ≡ Some c.in-Some.row.now = sym c.row.ensures ∙ ap option_copied c.in-Some.is in
    let own : c.in-Some.row.now.id ≡ c.args.n = search rules in
    place-from_id 0 registry.rows registry.next c.args.n c.args.at (ids-ascend 0 registry.rows registry.next c.next_id-next.ensures.valid) (slice_get_within registry.rows c.args.at c.in-Some.row.now found)
    (λ d. ap (λ (r : NodeRow). r.id) (get_or_from_slice_get registry.rows c.args.at c.in-Some.row.now d found) ∙ own)
