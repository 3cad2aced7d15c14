use Rattle.std.proofs.Common.{ap}
use Rattle.tcm_edges.specs.FailingFiles.{FailingFiles}
use Rattle.tcm_edges.proofs.FileLemmas.{GainsPart-kept, other-kept_append}
use Rattle.tcm_edges.specs.Files.{GainsPart}
use Rattle.tcm_edges.proofs.ShownLemmas.{append_made, append_same, leaves_failed}
use Rattle.tcm_edges.proofs.mem_store.MemStoreStore.append.Goals as goal

pub returns-clause-failed : goal.returns-clause-failed
returns-clause-failed c =
    GainsPart-kept c.args.self.now.files c.self.inside.store c.append_kept.new.store c.args.name.now c.args.bytes.now c.first_bytes.result.now _
    (ap (λ (store : FailingFiles). store.files) c.self.view_is) c.in_ok-append_kept.ensures.ok c.first_bytes.ensures

pub returns-clause-others : goal.returns-clause-others
returns-clause-others c = λ other apart.
    other-kept_append c.args.self.now.files c.self.inside.store c.append_kept.new.store c.args.name.now c.first_bytes.result.now other
    (ap (λ (store : FailingFiles). store.files) c.self.view_is) c.in_ok-append_kept.ensures.ok apart

pub returns-in_err-append-clause-crash : goal.returns-in_err-append-clause-crash
returns-in_err-append-clause-crash c =
    append_same c.args.self.now.files c.self.inside.store c.append.new.self c.args.name.now c.args.bytes.now (ap (λ (store : FailingFiles). store.files) c.self.view_is) c.in_err-append.ensures.unchanged c.from_residual.result

pub returns-in_default-clause-crash : goal.returns-in_default-clause-crash
returns-in_default-clause-crash c =
    append_made c.args.self.now.files c.self.inside.store c.append.new.self c.args.name.now c.args.bytes.now (ap (λ (store : FailingFiles). store.files) c.self.view_is) c.in_ok-append.ensures.after

pub returns-in_err-append_kept-clause-crash : goal.returns-in_err-append_kept-clause-crash
returns-in_err-append_kept-clause-crash c =
    append_same c.args.self.now.files c.self.inside.store c.append_kept.new.store c.args.name.now c.args.bytes.now (ap (λ (store : FailingFiles). store.files) c.self.view_is) c.in_err-append_kept.ensures.err c.from_residual-in_err-append_kept.result

pub returns-clause-crash : goal.returns-clause-crash
returns-clause-crash c =
    let was = ap (λ (store : FailingFiles). store.files) c.self.view_is in
    leaves_failed c.args.self.now.files c.append_kept.new.store c.args.name.now (GainsPart c.args.bytes.now)
    (GainsPart-kept c.args.self.now.files c.self.inside.store c.append_kept.new.store c.args.name.now c.args.bytes.now c.first_bytes.result.now _ was c.in_ok-append_kept.ensures.ok c.first_bytes.ensures)
    (λ other apart. other-kept_append c.args.self.now.files c.self.inside.store c.append_kept.new.store c.args.name.now c.first_bytes.result.now other was c.in_ok-append_kept.ensures.ok apart)
