use Rattle.std.proofs.Common.{refl, sym}
use Rattle.tcm_edges.proofs.ShownLemmas.{left_same}
use Rattle.tcm_session.specs.Outcomes.{outcome}
use Rattle.tcm_session.specs.Usage.{usage_end}
use Rattle.tcm_session.specs.declared.run_fault.RunFault.TheVariants as fault
use Rattle.tcm_session.proofs.log_files.EndedRuns.{ends_alone, runs_ended, runs_unended}
use Rattle.tcm_session.proofs.runs.RunLemmas.{memory_not_source}
use Rattle.tcm_session.proofs.program.answer_words.Goals as goal

pub returns-in-Some-clause-runs : goal.returns-in-Some-clause-runs
returns-in-Some-clause-runs g c = rw (sym c.in-Some.ensures.is) c.answer.ensures.runs

pub returns-in_err-usage-in-None-clause-runs : goal.returns-in_err-usage-in-None-clause-runs
unfolding outcome
returns-in_err-usage-in-None-clause-runs g c = λ left may.
    rw (sym c.in-None.ensures.is) (runs_unended (λ _. usage_end) _ refl _ _ _ _ c.from_residual.result fault.Memory memory_not_source c.from_residual.ensures.1 (left_same g.D.Store.files g.D.Store.shows c.args.store.now c.args.store.now left refl may))

pub returns-in_ok-usage-in-None-clause-runs : goal.returns-in_ok-usage-in-None-clause-runs
unfolding outcome
returns-in_ok-usage-in-None-clause-runs g c = λ left may.
    rw (sym c.in-None.ensures.is) (runs_ended (λ _. usage_end) _ _ c.print.result (ends_alone _ _ _ c.in_ok-usage-in-None.ensures) (λ seen. refl) c.print.ensures.status _ refl _ _ _ _ _ _ refl refl (left_same g.D.Store.files g.D.Store.shows c.args.store.now c.args.store.now left refl may) c.print.ensures.writes)
