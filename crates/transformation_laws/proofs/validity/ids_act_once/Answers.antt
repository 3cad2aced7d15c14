use Rattle.transformations.proofs.histories.LogLemmas.{id_acts_once, id_answers_again, log_kept}
use Rattle.transformation_laws.proofs.validity.ids_act_once.Goals as goal

pub returns-clause-kept : goal.returns-clause-kept
returns-clause-kept c = log_kept

pub returns-clause-once : goal.returns-clause-once
returns-clause-once c = id_acts_once

pub returns-clause-again : goal.returns-clause-again
returns-clause-again c = id_answers_again
