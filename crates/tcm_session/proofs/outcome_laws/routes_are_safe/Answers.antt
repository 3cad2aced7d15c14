use Rattle.tcm_session.specs.Request.{request_of}
use Rattle.tcm_session.proofs.printed.PrintedLemmas.{safe_route}
use Rattle.tcm_session.proofs.printed.RequestForms.{words_form}
use Rattle.tcm_session.proofs.outcome_laws.routes_are_safe.Goals as goal

pub returns : goal.returns
returns c = λ words log from to is. safe_route (request_of words) (words_form words) log from to is
