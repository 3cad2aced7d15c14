use Rattle.tcm_session.specs.Request.{request_of}
use Rattle.tcm_session.proofs.printed.PrintedLemmas.{printed_meet}
use Rattle.tcm_session.proofs.printed.RequestForms.{words_form}
use Rattle.tcm_session.proofs.outcome_laws.printed_quorums_meet.Goals as goal

pub returns : goal.returns
returns c = λ words seen input printed other front. printed_meet (request_of words) (words_form words) seen input printed other front
