use Rattle.std.proofs.Common.{sym}
use Rattle.script_session.proofs.steps.StepEndLemmas.{header_cause-bad, header_cause-read}
use Rattle.script_session.proofs.header.header_cause.Goals as goal

pub returns-in-Ok : goal.returns-in-Ok
returns-in-Ok c = rw (header_cause-read _ c.args.line.now c.in-Ok.content c.in-Ok.ensures.meaning) c.content_cause.ensures

pub returns-in-Err-Bad : goal.returns-in-Err-Bad
returns-in-Err-Bad c = sym (header_cause-bad _ c.args.line.now c.in-Err-Bad.field-0 c.in-Err-Bad.rule c.in-Err-Bad.field-0-is c.in-Err-Bad.ensures.meaning)
