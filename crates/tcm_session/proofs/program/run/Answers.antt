use Rattle.tcm_session.proofs.runs.RequestRuns.{is_run, run_for}
use Rattle.tcm_session.proofs.runs.RunLemmas.{not_6, shows_status}
use Rattle.tcm_session.proofs.program.run.Goals as goal

pub returns-clause-usage : goal.returns-clause-usage
returns-clause-usage g c = λ is left may.
    rw c.status_of.ensures (run_for _ _ _ _ _ _ (is_run _ _ _ _ _ (c.answer_words.ensures.runs left may)) is)

pub returns-clause-commit : goal.returns-clause-commit
returns-clause-commit g c = λ is left may.
    rw c.status_of.ensures (run_for _ _ _ _ _ _ (is_run _ _ _ _ _ (c.answer_words.ensures.runs left may)) is)

pub returns-clause-commit_to : goal.returns-clause-commit_to
returns-clause-commit_to g c = λ log cluster is left may.
    rw c.status_of.ensures (run_for _ _ _ _ _ _ (is_run _ _ _ _ _ (c.answer_words.ensures.runs left may)) is)

pub returns-clause-replay : goal.returns-clause-replay
returns-clause-replay g c = λ names is left may.
    rw c.status_of.ensures (run_for _ _ _ _ _ _ (is_run _ _ _ _ _ (c.answer_words.ensures.runs left may)) is)

pub returns-clause-snapshot : goal.returns-clause-snapshot
returns-clause-snapshot g c = λ log epoch is left may.
    rw c.status_of.ensures (run_for _ _ _ _ _ _ (is_run _ _ _ _ _ (c.answer_words.ensures.runs left may)) is)

pub returns-clause-generated : goal.returns-clause-generated
returns-clause-generated g c = λ start rounds is left may.
    rw c.status_of.ensures (run_for _ _ _ _ _ _ (is_run _ _ _ _ _ (c.answer_words.ensures.runs left may)) is)

pub returns-clause-mend : goal.returns-clause-mend
returns-clause-mend g c = λ old new cluster is left may.
    rw c.status_of.ensures (run_for _ _ _ _ _ _ (is_run _ _ _ _ _ (c.answer_words.ensures.runs left may)) is)

pub returns-clause-plan : goal.returns-clause-plan
returns-clause-plan g c = λ log node keyspace is left may.
    rw c.status_of.ensures (run_for _ _ _ _ _ _ (is_run _ _ _ _ _ (c.answer_words.ensures.runs left may)) is)

pub returns-clause-cms : goal.returns-clause-cms
returns-clause-cms g c = λ log from to is left may.
    rw c.status_of.ensures (run_for _ _ _ _ _ _ (is_run _ _ _ _ _ (c.answer_words.ensures.runs left may)) is)

pub returns-clause-status : goal.returns-clause-status
returns-clause-status g c = rw c.status_of.ensures (shows_status _ _ c.answer_words.result c.answer_words.ensures.cause c.answer_words.ensures.ended)

pub returns-clause-store : goal.returns-clause-store
returns-clause-store g c = λ none.
    ((c.answer_words.ensures.unnamed none).0, rw c.status_of.ensures (not_6 c.answer_words.result c.answer_words.ensures.ended (c.answer_words.ensures.unnamed none).1))
