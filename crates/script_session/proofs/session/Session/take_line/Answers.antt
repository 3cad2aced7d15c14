use Rattle.std.proofs.Common.{refl}
use Rattle.script_session.proofs.steps.StepEndLemmas.{next_entry-bad, next_entry-read}
use Rattle.script_session.proofs.session.Session.take_line.Goals as goal

pub returns-in-Ok-clause-ok : goal.returns-in-Ok-clause-ok
returns-in-Ok-clause-ok c = rw (next_entry-read c.args.self.now.log c.args.line.now c.in-Ok.content c.in-Ok.ensures.meaning) c.take_content.ensures.ok

pub returns-in-Err-Bad-clause-ok : goal.returns-in-Err-Bad-clause-ok
returns-in-Err-Bad-clause-ok c =
    (next_entry-bad c.args.self.now.log c.args.line.now c.in-Err-Bad.field-0 c.in-Err-Bad.rule c.in-Err-Bad.field-0-is c.in-Err-Bad.ensures.meaning, refl)
