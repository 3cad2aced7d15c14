use Rattle.script_session.specs.Machine.{session_over}
use Rattle.session_laws.proofs.FileLogs.{session_file}
use Rattle.session_laws.proofs.quorums.AnswersShown.{answers_shown, answers_whole}
use Rattle.session_laws.proofs.quorums.ShownLemmas.{shown_meet}
use Rattle.session_laws.proofs.validity.shown_quorums_meet.Goals as goal

pub returns-clause-whole : goal.returns-clause-whole
returns-clause-whole c = λ file log lines is. answers_whole (session_over log) (session_file file log is) lines

pub returns-clause-lines : goal.returns-clause-lines
returns-clause-lines c = λ file log lines is. answers_shown (session_over log) (session_file file log is) lines

pub returns-clause-meet : goal.returns-clause-meet
returns-clause-meet c = λ file log lines is. shown_meet (session_over log) (session_file file log is) lines
