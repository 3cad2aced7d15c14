use Rattle.tcm_session.proofs.log_files.LookedRuns.{log_shown}
use Rattle.tcm_session.specs.code.Questions.{said}
use Rattle.tcm_session.proofs.files.question.look.Goals as goal

pub returns-clause-ends : goal.returns-clause-ends
returns-clause-ends g c = log_shown c.args.name.now (said c.args.question.now) _ c.in_ok-loaded.loaded c.in_ok-once_loaded.field-0 c.in_ok-loaded.ensures.found c.in_ok-once_loaded.ensures
