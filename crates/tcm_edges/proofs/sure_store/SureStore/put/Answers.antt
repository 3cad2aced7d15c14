use Rattle.std.proofs.Common.{◌≡◌, ap, ◌∙◌, Some, None, position, ℕ, List}
use Rattle.tcm_edges.specs.code.StoredFiles.{is_named}
use Rattle.tcm_edges.proofs.FileLemmas.{as_map, put_placed, put_unplaced}
use Rattle.tcm_edges.proofs.sure_store.SureStore.put.Goals as goal

pub returns-in-Some-clause-ok : goal.returns-in-Some-clause-ok
returns-in-Some-clause-ok c =
    let files = c.self.inside.stored.items in
    let place : position (is_named c.args.name.now) files ≡ Some c.in-Some.place = cc in
    let same = c.file.view_is ∙ c.index_mut-file.ensures.value in
    put_placed c.args.self.now c.args.name.now c.args.bytes.now files c.in-Some.place c.index_mut-file.result.now _ c.self.view_is place
    (ap (λ (file : List ℕ × List ℕ). file.0) same) c.in_ok-bytes.ensures.items

pub returns-in_ok-push-in-None-clause-ok : goal.returns-in_ok-push-in-None-clause-ok
returns-in_ok-push-in-None-clause-ok c =
    let files = c.self.inside.stored.items in
    let place : position (is_named c.args.name.now) files ≡ None = cc in
    ap as_map c.in_ok-push-in-None.ensures.items
    ∙ put_unplaced c.args.self.now c.args.name.now c.args.bytes.now files _ c.self.view_is place c.in_ok-name-in-None.ensures.ok c.in_ok-bytes.ensures.items
