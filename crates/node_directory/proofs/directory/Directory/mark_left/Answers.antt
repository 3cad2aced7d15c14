use Rattle.std.proofs.Common.{subst}
use Rattle.node_directory.specs.code.StoredRows.{IsPlaceOf}
use Rattle.node_directory.proofs.DirectoryChanges.{kept-marked}
use Rattle.node_directory.proofs.directory.Directory.mark_left.Goals as goal

pub invariant_of-self : goal.invariant_of-self
invariant_of-self c =
    let place = subst (IsPlaceOf c.args.self.now.rows c.args.n) c.unwrap-at.ensures c.place.ensures in
    ((kept-marked c.self.inside.nodes.entries c.args.self.now _ c.args.n c.unwrap-at.result c.index_mut.result.now c.self.invariant.0 c.self.view_is place c.index_mut.ensures.value).kept, c.self.invariant.1)

pub returns-clause-rows : goal.returns-clause-rows
returns-clause-rows c =
    let place = subst (IsPlaceOf c.args.self.now.rows c.args.n) c.unwrap-at.ensures c.place.ensures in
    (kept-marked c.self.inside.nodes.entries c.args.self.now _ c.args.n c.unwrap-at.result c.index_mut.result.now c.self.invariant.0 c.self.view_is place c.index_mut.ensures.value).rows
