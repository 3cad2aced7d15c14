use Rattle.std.proofs.Common.{◌≡◌, ap, sym, ◌∙◌, Some, None, position, ℕ, List}
use Rattle.tcm_edges.specs.Files.{file_of}
use Rattle.tcm_edges.specs.code.StoredFiles.{is_named}
use Rattle.tcm_edges.proofs.FileLemmas.{file_of-placed, file_of-unplaced}
use Rattle.tcm_edges.proofs.sure_store.SureStore.file.Goals as goal

pub returns-in-Some : goal.returns-in-Some
returns-in-Some c =
    let files = c.self.inside.stored.items in
    let place : position (is_named c.args.name.now) files ≡ Some c.in-Some.place = cc in
    ap (λ all. file_of all c.args.name.now) (sym c.self.view_is)
    ∙ file_of-placed c.args.name.now files c.in-Some.place c.index-file.result.now place
    ∙ ap (λ (file : List ℕ × List ℕ). Some file.1) (sym c.index-file.ensures ∙ sym c.file.view_is)
    ∙ ap (λ bytes. Some bytes) (sym c.as_slice.ensures.value)

pub returns-in-None : goal.returns-in-None
returns-in-None c =
    let files = c.self.inside.stored.items in
    let place : position (is_named c.args.name.now) files ≡ None = cc in
    ap (λ all. file_of all c.args.name.now) (sym c.self.view_is) ∙ file_of-unplaced c.args.name.now files place
