use Rattle.tcm_session.proofs.inputs.SentFiles.{left_goes_on}
use Rattle.tcm_session.proofs.inputs.SentLemmas.{comes_to_same}
use Rattle.tcm_session.proofs.validity.scripts_are_sent_again.Goals as goal

pub returns-clause-log : goal.returns-clause-log
returns-clause-log c = comes_to_same

pub returns-clause-file : goal.returns-clause-file
returns-clause-file c = left_goes_on
