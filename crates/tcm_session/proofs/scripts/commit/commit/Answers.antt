use Rattle.std.proofs.Common.{refl}
use Rattle.tcm_edges.proofs.ShownLemmas.{left_same}
use Rattle.tcm_session.specs.declared.run_fault.RunFault.TheVariants as fault
use Rattle.tcm_session.proofs.runs.RunLemmas.{runs_err, runs_none}
use Rattle.tcm_session.proofs.scripts.commit.commit.Goals as goal

pub returns-in_err-session-clause-runs : goal.returns-in_err-session-clause-runs
returns-in_err-session-clause-runs g c = λ left may all held.
    rw (left_same g.D.Store.files g.D.Store.shows c.args.store.now c.args.store.now left refl may)
    (runs_err _ _ _ _ _ c.from_residual.result fault.Memory c.from_residual.ensures.1 (runs_none (record { log = _; file = _; files = all }) _ _ fault.Memory))

pub returns-clause-runs : goal.returns-clause-runs
returns-clause-runs g c = rw c.in_ok-session.ensures at c.run_script.ensures.runs
