use Rattle.std.proofs.Common.{◌≡◌, true, rules}
use Rattle.std.specs.Map.{values_of}
use Rattle.std.proofs.lemmas.List.Sorted.{answers_always}
use Rattle.node_directory.specs.Directory.{are_ascending, ids_of}
use Rattle.node_directory.proofs.NodeRows.{ids-ascend}
use Rattle.node_directory.proofs.RowSearch.{searched}
use Rattle.node_directory.proofs.directory.Directory.search.Goals as goal

pub returns : goal.returns
returns c =
    let es = c.self.inside.nodes.entries in
    let facts = c.binary_search_by_key.ensures in
    let by_id = facts.position (λ e. e.1.id) (answers_always _ _ _ (λ f a r g called. search rules)) in
    let ascend : are_ascending 0 (ids_of (values_of es)) c.self.inside.next ≡ true = ids-ascend 0 (values_of es) c.self.inside.next c.self.invariant.0.1 in
    let place = searched es c.self.inside.next c.n.inside.0 ascend _ facts.bound by_id in
    rw (← c.self.view_is, c.ok.ensures.value, ← c.n.view_is) place
