use Rattle.shared_log_laws.proofs.LoneProcess.{lone_offer}
use Rattle.shared_log_laws.proofs.LoneReads.{lone_read}
use Rattle.shared_log_laws.proofs.validity.lone_processes_offer_once.Goals as goal

pub returns-clause-offer : goal.returns-clause-offer
returns-clause-offer c = lone_offer

pub returns-clause-read : goal.returns-clause-read
returns-clause-read c = lone_read
