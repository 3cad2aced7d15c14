use Rattle.shared_log_laws.proofs.Answered.{answer_linear}
use Rattle.shared_log_laws.proofs.Moments.{was_whole}
use Rattle.shared_log_laws.proofs.validity.answers_are_linear.Goals as goal

pub returns-clause-linear : goal.returns-clause-linear
returns-clause-linear c = answer_linear

pub returns-clause-moments : goal.returns-clause-moments
returns-clause-moments c = was_whole
