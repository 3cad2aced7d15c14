use Rattle.shared_log_laws.proofs.Answered.{answer_stands, answers_agree}
use Rattle.shared_log_laws.proofs.validity.answered_commits_stand.Goals as goal

pub returns-clause-stands : goal.returns-clause-stands
returns-clause-stands c = answer_stands

pub returns-clause-once : goal.returns-clause-once
returns-clause-once c = answers_agree
