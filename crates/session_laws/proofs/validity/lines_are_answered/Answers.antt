use Rattle.script_session.specs.Machine.{session_after, session_over}
use Rattle.script_session.proofs.steps.SessionLemmas.{after_lines}
use Rattle.session_laws.proofs.AnsweredLines.{line_answered}
use Rattle.session_laws.proofs.FileLogs.{session_file}
use Rattle.session_laws.proofs.validity.lines_are_answered.Goals as goal

pub returns : goal.returns
returns c = λ file log lines bytes is. line_answered (session_after (session_over log) lines) bytes (after_lines (session_over log) lines (session_file file log is)).is
