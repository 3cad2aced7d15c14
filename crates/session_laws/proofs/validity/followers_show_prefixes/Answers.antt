use Rattle.script_session.specs.Machine.{session_after, session_over}
use Rattle.session_laws.proofs.FileLogs.{session_file}
use Rattle.script_session.proofs.steps.SessionLemmas.{after_lines}
use Rattle.script_session.proofs.followers.TakenLemmas.{entry_at_epoch, image_at_epoch}
use Rattle.session_laws.proofs.TakenLines.{answer_as_log, followers_show}
use Rattle.session_laws.proofs.validity.followers_show_prefixes.Goals as goal

pub returns-clause-prefixes : goal.returns-clause-prefixes
returns-clause-prefixes c = λ file log lines is. followers_show log lines (session_file file log is)

pub returns-clause-at : goal.returns-clause-at
returns-clause-at c = λ follower entry image. (entry_at_epoch follower entry, image_at_epoch follower image)

pub returns-clause-queries : goal.returns-clause-queries
returns-clause-queries c = λ file log lines is. answer_as_log (session_after (session_over log) lines) (after_lines (session_over log) lines (session_file file log is)).is
