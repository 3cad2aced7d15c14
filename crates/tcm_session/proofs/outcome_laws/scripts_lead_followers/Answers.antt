use Rattle.tcm_session.specs.Request.{request_of}
use Rattle.tcm_session.proofs.printed.PrintedLemmas.{outcome_followers, outcome_replies}
use Rattle.tcm_session.proofs.printed.RequestForms.{words_form}
use Rattle.tcm_session.proofs.outcome_laws.scripts_lead_followers.Goals as goal

pub returns-clause-followers : goal.returns-clause-followers
returns-clause-followers c = λ words seen input. outcome_followers (request_of words) (words_form words) seen input

pub returns-clause-replies : goal.returns-clause-replies
returns-clause-replies c = λ words seen input. outcome_replies (request_of words) (words_form words) seen input
