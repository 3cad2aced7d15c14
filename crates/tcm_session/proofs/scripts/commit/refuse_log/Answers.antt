use Rattle.tcm_session.proofs.log_files.EndedRuns.{nothing_written}
use Rattle.tcm_session.proofs.scripts.commit.refuse_log.Goals as goal

pub returns-in_err-ending-clause-writes : goal.returns-in_err-ending-clause-writes
returns-in_err-ending-clause-writes g c = nothing_written _ _ _ c.from_residual.result c.from_residual.ensures.1
