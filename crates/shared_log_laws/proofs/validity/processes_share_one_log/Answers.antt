use Rattle.shared_log_laws.proofs.OneLog.{one_log, stays_in, up_to}
use Rattle.shared_log_laws.proofs.validity.processes_share_one_log.Goals as goal

pub returns-clause-log : goal.returns-clause-log
returns-clause-log c = one_log

pub returns-clause-stays : goal.returns-clause-stays
returns-clause-stays c = stays_in

pub returns-clause-known : goal.returns-clause-known
returns-clause-known c = up_to
