use Rattle.session_laws.proofs.AskedReplies.{replies_skip_nothing}
use Rattle.session_laws.proofs.FileLogs.{session_file}
use Rattle.session_laws.proofs.validity.catch_up_skips_nothing.Goals as goal

pub returns : goal.returns
returns c = λ file log lines is. replies_skip_nothing log lines (session_file file log is)
