use Rattle.std.proofs.Common.{◌≡◌, ◌++◌, refl, ap, ◌∙◌}
use Rattle.tcm_edges.proofs.ShownLemmas.{left_only, left_same}
use Rattle.script_session.specs.Machine.{reply}
use Rattle.script_session.specs.declared.fault.StepFault.TheVariants as step
use Rattle.tcm_session.proofs.log_files.EndedRuns.{nothing_written}
use Rattle.tcm_session.proofs.runs.StopLemmas.{on_fault, stopped_step, stopped_write}
use Rattle.tcm_session.proofs.scripts.answering.answer_begun.Goals as goal

pub returns-in_err-text-clause-writes : goal.returns-in_err-text-clause-writes
returns-in_err-text-clause-writes g c = nothing_written _ _ _ c.from_residual.result c.from_residual.ensures.1

pub returns-in_err-text-clause-stopped : goal.returns-in_err-text-clause-stopped
returns-in_err-text-clause-stopped g c =
    on_fault _ c.from_residual.result (λ left may. stopped_step _ _ _ step.Memory _ _ left (left_same g.D.Store.files g.D.Store.shows c.args.store.now c.args.store.now left refl may))

pub returns-in_err-step-clause-stopped : goal.returns-in_err-step-clause-stopped
returns-in_err-step-clause-stopped g c =
    on_fault _ c.from_residual-in_err-step.result
    (λ left may.
    let leaves = rw c.as_slice-line.ensures.value at (c.in_err-step.ensures.crash.fault left may) in
    stopped_step _ _ _ _ _ _ left leaves)

pub returns-in_err-write_all-clause-stopped : goal.returns-in_err-write_all-clause-stopped
returns-in_err-write_all-clause-stopped g c =
    let text = (reply c.args.script.now.session c.args.script.now.begun.items).text in
    let answered = rw c.as_slice-line.ensures.value at c.in_ok-step.ensures.text in
    let gained = rw c.as_slice-line.ensures.value at c.in_ok-step.ensures.file in
    let same : c.as_slice.result.now ≡ text = c.as_slice.ensures ∙ answered ∙ ap (λ t. t ++ text) c.in_ok-text.ensures in
    let part = rw same at c.in_err-write_all.ensures.part in
    on_fault _ c.from_residual-in_err-write_all.result
    (λ left may.
    let same = left_only g.D.Store.files g.D.Store.shows c.args.store.now c.step.new.store left c.in_ok-step.ensures.crash.ok may in
    stopped_write _ _ _ _ _ _ left part (same ∙ gained))

pub returns-clause-stays : goal.returns-clause-stays
returns-clause-stays g c = c.in_ok-step.ensures.crash.ok
