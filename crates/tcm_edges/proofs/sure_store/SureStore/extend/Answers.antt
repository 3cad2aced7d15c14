use Rattle.std.proofs.Common.{◌≡◌, ◌++◌, ap, sym, subst, ◌∙◌, Some, None, OnOk, Option, position, ℕ, List}
use Rattle.std.specs.FinMap as map
use Rattle.tcm_edges.specs.Files.{content, file_of}
use Rattle.tcm_edges.specs.code.StoredFiles.{is_named}
use Rattle.tcm_edges.proofs.FileLemmas.{put_placed-more, file_of-unplaced}
use Rattle.tcm_edges.proofs.sure_store.SureStore.extend.Goals as goal

pub returns-in_ok-extend_from_slice-in-Some-clause-ok :
    goal.returns-in_ok-extend_from_slice-in-Some-clause-ok
returns-in_ok-extend_from_slice-in-Some-clause-ok c =
    let files = c.self.inside.stored.items in
    let place : position (is_named c.args.name.now) files ≡ Some c.in-Some.place = cc in
    let same = c.file.view_is ∙ c.index_mut-file.ensures.value in
    put_placed-more c.args.self.now c.args.name.now c.args.bytes.now files c.in-Some.place c.index_mut-file.result.now _ c.self.view_is place
    (ap (λ (file : List ℕ × List ℕ). file.0) same)
    (c.in_ok-extend_from_slice-in-Some.ensures.items ∙ ap (λ (file : List ℕ × List ℕ). file.1 ++ c.args.bytes.now) same)

pub returns-in-None-clause-ok : goal.returns-in-None-clause-ok
returns-in-None-clause-ok c =
    let files = c.self.inside.stored.items in
    let place : position (is_named c.args.name.now) files ≡ None = cc in
    let absent : file_of c.args.self.now c.args.name.now ≡ None = ap (λ all. file_of all c.args.name.now) (sym c.self.view_is) ∙ file_of-unplaced c.args.name.now files place in
    let P : Option (List ℕ) → Type 0 = λ file. OnOk c.put.result (c.put.new.self ≡ map.insert c.args.self.now c.args.name.now (content file ++ c.args.bytes.now)) in
    subst P (sym absent) c.put.ensures.ok
