use Rattle.std.proofs.Common.{ap, refl, ◌∙◌}
use Rattle.tcm_edges.specs.Files.{file_of}
use Rattle.tcm_edges.proofs.FileLemmas.{file_of-put, file_of-put_other}
use Rattle.tcm_edges.proofs.ShownLemmas.{replace_made, replace_same}
use Rattle.tcm_edges.proofs.sure_store.SureStoreStore.replace.Goals as goal

pub returns-clause-ok : goal.returns-clause-ok
returns-clause-ok c =
    let name = c.args.name.now in
    ap (λ all. file_of all name) c.in_ok-put.ensures.ok ∙ file_of-put c.args.self.now name _

pub returns-clause-others : goal.returns-clause-others
returns-clause-others c = λ other apart.
    ap (λ all. file_of all other) c.in_ok-put.ensures.ok ∙ file_of-put_other c.args.self.now c.args.name.now _ other apart

pub returns-in_err-put-clause-crash : goal.returns-in_err-put-clause-crash
returns-in_err-put-clause-crash c = replace_same c.args.self.now c.args.self.now c.put.new.self c.args.name.now c.args.bytes.now refl c.in_err-put.ensures.err c.from_residual.result

pub returns-clause-crash : goal.returns-clause-crash
returns-clause-crash c = replace_made c.args.self.now c.args.self.now c.put.new.self c.args.name.now c.args.bytes.now refl c.in_ok-put.ensures.ok
