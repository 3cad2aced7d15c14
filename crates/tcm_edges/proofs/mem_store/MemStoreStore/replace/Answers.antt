use Rattle.std.proofs.Common.{ap}
use Rattle.tcm_edges.specs.FailingFiles.{FailingFiles}
use Rattle.tcm_edges.proofs.FileLemmas.{IsOldOrNew-kept, other-kept_replace}
use Rattle.tcm_edges.specs.Files.{IsOldOrNew}
use Rattle.tcm_edges.proofs.ShownLemmas.{replace_made, replace_same, leaves_failed}
use Rattle.tcm_edges.proofs.mem_store.MemStoreStore.replace.Goals as goal

pub returns-clause-failed : goal.returns-clause-failed
returns-clause-failed c =
    IsOldOrNew-kept c.args.self.now.files c.self.inside.store c.replace_kept.new.store c.args.name.now c.args.bytes.now c.in-Some.keep
    (ap (λ (store : FailingFiles). store.files) c.self.view_is) c.in_ok-replace_kept.ensures.ok

pub returns-clause-others : goal.returns-clause-others
returns-clause-others c = λ other apart.
    other-kept_replace c.args.self.now.files c.self.inside.store c.replace_kept.new.store c.args.name.now c.args.bytes.now c.in-Some.keep other
    (ap (λ (store : FailingFiles). store.files) c.self.view_is) c.in_ok-replace_kept.ensures.ok apart

pub returns-in_err-replace-clause-crash : goal.returns-in_err-replace-clause-crash
returns-in_err-replace-clause-crash c =
    replace_same c.args.self.now.files c.self.inside.store c.replace.new.self c.args.name.now c.args.bytes.now (ap (λ (store : FailingFiles). store.files) c.self.view_is) c.in_err-replace.ensures.unchanged c.from_residual.result

pub returns-in_default-clause-crash : goal.returns-in_default-clause-crash
returns-in_default-clause-crash c =
    replace_made c.args.self.now.files c.self.inside.store c.replace.new.self c.args.name.now c.args.bytes.now (ap (λ (store : FailingFiles). store.files) c.self.view_is) c.in_ok-replace.ensures.after

pub returns-in_err-replace_kept-clause-crash : goal.returns-in_err-replace_kept-clause-crash
returns-in_err-replace_kept-clause-crash c =
    replace_same c.args.self.now.files c.self.inside.store c.replace_kept.new.store c.args.name.now c.args.bytes.now (ap (λ (store : FailingFiles). store.files) c.self.view_is) c.in_err-replace_kept.ensures.err c.from_residual-in_err-replace_kept.result

pub returns-clause-crash : goal.returns-clause-crash
returns-clause-crash c =
    let was = ap (λ (store : FailingFiles). store.files) c.self.view_is in
    leaves_failed c.args.self.now.files c.replace_kept.new.store c.args.name.now (IsOldOrNew c.args.bytes.now)
    (IsOldOrNew-kept c.args.self.now.files c.self.inside.store c.replace_kept.new.store c.args.name.now c.args.bytes.now c.in-Some.keep was c.in_ok-replace_kept.ensures.ok)
    (λ other apart. other-kept_replace c.args.self.now.files c.self.inside.store c.replace_kept.new.store c.args.name.now c.args.bytes.now c.in-Some.keep other was c.in_ok-replace_kept.ensures.ok apart)
