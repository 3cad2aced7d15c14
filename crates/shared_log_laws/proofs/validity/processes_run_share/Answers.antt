use Rattle.shared_log_laws.proofs.Runs.{prints_answer, runs_share}
use Rattle.shared_log_laws.proofs.validity.processes_run_share.Goals as goal

pub returns-clause-runs : goal.returns-clause-runs
returns-clause-runs c = runs_share

pub returns-clause-answers : goal.returns-clause-answers
returns-clause-answers c = prints_answer
