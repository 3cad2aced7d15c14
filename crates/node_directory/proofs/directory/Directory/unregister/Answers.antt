use Rattle.std.proofs.Common.{subst, arith}
use Rattle.node_directory.specs.code.StoredRows.{IsPlaceOf}
use Rattle.node_directory.proofs.DirectoryChanges.{kept-removed}
use Rattle.node_directory.proofs.directory.Directory.unregister.Goals as goal

pub invariant_of-self : goal.invariant_of-self
invariant_of-self c =
    let place = subst (IsPlaceOf c.args.self.now.rows c.args.n) c.unwrap-at.ensures c.place.ensures in
    let removal = c.shift_remove_index-removed.ensures in
    let reserve = c.self.invariant.1 in
    let spare = removal.room.0 in
    ((kept-removed _ _ c.args.self.now _ c.args.n c.unwrap-at.result c.self.invariant.0 c.self.view_is place removal.entries).kept, omega (arith, reserve, spare))

pub returns-clause-rows : goal.returns-clause-rows
returns-clause-rows c =
    let place = subst (IsPlaceOf c.args.self.now.rows c.args.n) c.unwrap-at.ensures c.place.ensures in
    (kept-removed _ _ c.args.self.now _ c.args.n c.unwrap-at.result c.self.invariant.0 c.self.view_is place c.shift_remove_index-removed.ensures.entries).rows
