use Rattle.shared_log_laws.proofs.SharedSessions.{followers_agree, quorums_meet}
use Rattle.shared_log_laws.proofs.validity.shared_quorums_meet.Goals as goal

pub returns-clause-meet : goal.returns-clause-meet
returns-clause-meet c = quorums_meet

pub returns-clause-followers : goal.returns-clause-followers
returns-clause-followers c = followers_agree
