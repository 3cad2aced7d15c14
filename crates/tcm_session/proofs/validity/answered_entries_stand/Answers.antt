use Rattle.script_session.specs.Machine.{session_over}
use Rattle.session_laws.proofs.FileLogs.{session_for}
use Rattle.tcm_session.proofs.runs.AnsweredLemmas.{holds_answered}
use Rattle.tcm_session.proofs.validity.answered_entries_stand.Goals as goal

pub returns : goal.returns
returns c = λ cluster file log lines last printed added is stops. holds_answered (session_over log) lines last printed added (session_for cluster file log is) stops
