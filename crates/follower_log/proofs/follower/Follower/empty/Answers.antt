use Rattle.follower_log.proofs.ShowsLemmas.{empty_stands}
use Rattle.follower_log.proofs.follower.Follower.empty.Goals as goal

pub returns-clause-stands : goal.returns-clause-stands
returns-clause-stands c log = empty_stands log

pub returns-in_err-empty-clause-stands : goal.returns-in_err-empty-clause-stands
returns-in_err-empty-clause-stands c log = empty_stands log
